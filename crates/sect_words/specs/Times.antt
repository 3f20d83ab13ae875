-- Meetings whose weeks may be said by days of a term.
use Rattle.std.specs.Prelude.{ℕ, ◌+◌, ◌-◌, ◌/◌, ◌&&◌, nat_le, List, [], ◌∷◌, Option, None, Some}
use Rattle.std.specs.Option.{option_or}
use Rattle.sect_base.specs.Pattern.{Pattern}
use Rattle.sect_base.specs.Weeks.{week_range}
use Rattle.sect_words.specs.Parts.{joined, pieces}
use Rattle.sect_words.specs.Reading.{◌>>=◌, any_word, key_at, only_where, whole, word_at}
use Rattle.sect_words.specs.ReadingWords.{day_of, meeting_of}

-- the weeks of a term that meet the days from the first to the last, which are in order and within sixty weeks
abbrev pub weeks_between : ℕ → ℕ → ℕ → Option ℕ
weeks_between term first last = only_where (nat_le term first && nat_le first last && nat_le last (term + 419)) (week_range ((first - term) / 7) ((last - term) / 7))

-- the first and the last day, with an empty part between the two dots
unfoldable pub days_at : List (List ℕ) → Option ((ℕ × ℕ) × List (List ℕ))
days_at parts = do
  first ← word_at day_of parts
  gap ← key_at [] first.1
  last ← word_at day_of gap
  Some ((first.0, last.0), last.1)

-- the weeks of a term that `DAY..DAY` meets, where 46 is a dot
unfoldable pub dates_of : ℕ → List ℕ → Option ℕ
dates_of term text = whole (days_at (pieces 46 text)) >>= λ days. weeks_between term days.0 days.1

-- the parts of a meeting whose weeks are said by days; the days and the time are those of a meeting in week 1, which is 49
unfoldable pub dated_at : ℕ → List (List ℕ) → Option (Pattern × List (List ℕ))
dated_at term parts = do
  days ← word_at any_word parts
  time ← word_at any_word days.1
  weeks ← word_at (dates_of term) time.1
  meeting ← meeting_of (joined 47 (days.0 ∷ time.0 ∷ (49 ∷ []) ∷ []))
  Some (record { days = meeting.days; start = meeting.start; slots = meeting.slots; weeks = weeks.0 }, weeks.1)

-- a meeting whose weeks are said as `DAY..DAY`, where 47 is a slash
abbrev pub dated_of : ℕ → List ℕ → Option Pattern
dated_of term text = whole (dated_at term (pieces 47 text))

-- a meeting, or one whose weeks are said by days of the term, where there is one
abbrev pub term_meeting_of : Option ℕ → List ℕ → Option Pattern
term_meeting_of None text = meeting_of text
term_meeting_of (Some term) text = option_or (meeting_of text) (dated_of term text)
