-- The text of a meeting: weekdays, time and weeks between slashes.
use Rattle.std.specs.Prelude.{ℕ, ◌+◌, ◌<◌, ◌≤◌, ◌==◌, ◌⊎◌, List, ◌∷◌, ◌++◌}
use Rattle.std.specs.List.{before_first, after_first}
use Rattle.sect_base.specs.declared.fault.TimeFault.{TimeFault}
use Rattle.sect_base.specs.declared.fault.TimeFault.TheVariants.{BadDays, BadTime, PastMidnight, BadWeeks, BadDate}
use Rattle.sect_base.specs.Pattern.{Pattern}
use Rattle.sect_base.specs.WeekdayText.{days_text, IsDaysText}
use Rattle.sect_base.specs.ClockText.{time_text, IsTimeText}
use Rattle.sect_base.specs.WeekText.{weeks_text, IsWeeksText}

-- `DAYS/HHMM-HHMM/WEEKS`
unfoldable pub meeting_text : Pattern → List ℕ
meeting_text p = days_text p.days ++ 47 ∷ time_text p.start (p.start + p.slots) ++ 47 ∷ weeks_text p.weeks

-- what stands before the first slash, or all where there is none
abbrev pub before_slash : List ℕ → List ℕ
before_slash text = before_first (λ byte. byte == 47) text

-- what stands after the first slash, or nothing where there is none
abbrev pub after_slash : List ℕ → List ℕ
after_slash text = after_first (λ byte. byte == 47) text

-- the text's weekdays are these
abbrev pub SaysDays : List ℕ → ℕ → Type 0
SaysDays text days = IsDaysText (before_slash text) days

-- the text's time is these slots
abbrev pub SaysTime : List ℕ → ℕ → ℕ → Type 0
SaysTime text start end = IsTimeText (before_slash (after_slash text)) start end

-- the text's weeks are these
abbrev pub SaysWeeks : List ℕ → ℕ → Type 0
SaysWeeks text weeks = IsWeeksText (after_slash (after_slash text)) weeks

-- some weekdays are said
abbrev pub HasDays : List ℕ → Type 0
HasDays text = (days : ℕ) × SaysDays text days

-- a time is said that ends after its start and by midnight
abbrev pub HasTime : List ℕ → Type 0
HasTime text = (start end : ℕ) × SaysTime text start end × (start < end) × (end ≤ 288)

-- the first thing that is wrong with the text of a meeting
abbrev pub IsFaultOf : List ℕ → TimeFault → Type 0
IsFaultOf text BadDays = HasDays text → ⊥
IsFaultOf text BadTime = HasDays text × ((start end : ℕ) → SaysTime text start end → ⊥)
IsFaultOf text PastMidnight = HasDays text × ((start end : ℕ) × SaysTime text start end × ((end ≤ start) ⊎ (288 < end)))
IsFaultOf text BadWeeks = HasDays text × HasTime text × ((weeks : ℕ) → SaysWeeks text weeks → ⊥)
IsFaultOf text BadDate = ⊥
