-- Texts of meetings, cut at their slashes and joined again.
use Rattle.std.specs.Prelude.{◌≡◌, ◌≢◌, ℕ, suc, zero, ◌+◌, ◌-◌, ◌<◌, ◌≤◌, ◌==◌, ◌⊎◌, true, false, if◌then◌else◌, List, [], ◌∷◌, ◌++◌, length, take, drop, refl}
use Rattle.std.specs.List.{position_or_len}
use Rattle.std.proofs.Common.{sym, ap, ◌∙◌, subst, arith, inl, inr, get_or, append_assoc, length-append}
use Rattle.std.proofs.lemmas.Bool.{cases_lt, eqb-true}
use Rattle.std.proofs.lemmas.Bool.Decides.{nat_tests}
use Rattle.std.proofs.lemmas.Grind.{common_steps}
use Rattle.std.proofs.lemmas.List.{take_at, drop_at, drop_all, get_or_append_left, get_or_at, length_push}
use Rattle.std.proofs.lemmas.List.Sums.{position_or_len_is, split_at_first, passes_at_first}
use Rattle.sect_base.specs.Pattern.{Pattern, IsPattern, has_bit}
use Rattle.sect_base.specs.WeekdayText.{WEEKDAY_LETTERS, letters_of, days_text}
use Rattle.sect_base.specs.ClockText.{time_text}
use Rattle.sect_base.specs.WeekText.{weeks_text, IsWeeksText}
use Rattle.sect_base.specs.WeekScan.{weeks_in}
use Rattle.sect_base.specs.MeetingText.{meeting_text, before_slash, after_slash, SaysDays, SaysTime, SaysWeeks}
use Rattle.sect_base.proofs.ClockLemmas.{one_time}
use Rattle.sect_base.proofs.WeekdayLemmas.{days_in, days_in-days_text}
use Rattle.sect_base.proofs.WeekScans.{one_set}

-- no byte is a slash
abbrev NoSlash : List ℕ → Type 0
NoSlash [] = Unit {0}
NoSlash (byte ∷ more) = (byte ≢ 47) × NoSlash more

byte_at : (xs : List ℕ) (k : ℕ) → NoSlash xs → k < length xs → get_or xs k 0 ≢ 47
byte_at [] k none inside = absurd (omega (arith, inside))
byte_at (byte ∷ more) zero none inside = none.0
byte_at (byte ∷ more) (suc k) none inside = byte_at more k none.1 (omega (arith, inside))

letters-no_slash : (days day : ℕ) (letters : List ℕ) → NoSlash letters → NoSlash (letters_of days day letters)
letters-no_slash days day [] none = tt
letters-no_slash days day (letter ∷ more) none =
    let rest = letters-no_slash days (day + 1) more none.1 in
    elim (has_bit days day) as (λ b. NoSlash (if b then letter ∷ letters_of days (day + 1) more else letters_of days (day + 1) more)) [ true ↦ (none.0, rest) | false ↦ rest ]

days-no_slash : (days : ℕ) → NoSlash (days_text days)
unfolding days_text
days-no_slash days =
    letters-no_slash days 0 WEEKDAY_LETTERS (λ e. omega arith, (λ e. omega arith, (λ e. omega arith, (λ e. omega arith, (λ e. omega arith, (λ e. omega arith, (λ e. omega arith, tt)))))))

time-no_slash : (start end : ℕ) → NoSlash (time_text start end)
unfolding time_text
time-no_slash start end =
    (λ e. omega (arith, e), (λ e. omega (arith, e), (λ e. omega (arith, e), (λ e. omega (arith, e), (λ e. omega arith, (λ e. omega (arith, e), (λ e. omega (arith, e), (λ e. omega (arith, e), (λ e. omega (arith, e), tt)))))))))

first_slash : (xs ys : List ℕ) → NoSlash xs → position_or_len (λ byte. byte == 47) (xs ++ 47 ∷ ys) ≡ length xs
first_slash xs ys none =
    position_or_len_is (λ byte. byte == 47) (xs ++ 47 ∷ ys) (length xs) 0 (grind (arith, common_steps))
    (λ k lt. let ne = byte_at xs k none lt in rw get_or_append_left (grind (arith, nat_tests))) (λ _. rw (get_or_at xs 47 ys 0 (length xs) refl) refl)

before_slash-at : (xs ys : List ℕ) → NoSlash xs → before_slash (xs ++ 47 ∷ ys) ≡ xs
before_slash-at xs ys none = ap (λ n. take n (xs ++ 47 ∷ ys)) (first_slash xs ys none) ∙ take_at xs (47 ∷ ys) (length xs) refl

after_slash-at : (xs ys : List ℕ) → NoSlash xs → after_slash (xs ++ 47 ∷ ys) ≡ ys
after_slash-at xs ys none =
    ap (λ n. drop (n + 1) (xs ++ 47 ∷ ys)) (first_slash xs ys none)
    ∙ ap (drop (length xs + 1)) (sym (append_assoc xs (47 ∷ []) ys)) ∙ drop_at (xs ++ 47 ∷ []) ys (length xs + 1) (length_push xs 47)

meeting_text-cut : (p : Pattern) → meeting_text p ≡ days_text p.days ++ 47 ∷ (time_text p.start (p.start + p.slots) ++ 47 ∷ weeks_text p.weeks)
unfolding meeting_text
meeting_text-cut p = append_assoc (days_text p.days) (47 ∷ time_text p.start (p.start + p.slots)) (47 ∷ weeks_text p.weeks)

-- what stands round the slashes of a meeting's text
pub record Parts (text : List ℕ) (p : Pattern) : Type 0 where
  pub days : before_slash text ≡ days_text p.days
  pub time : before_slash (after_slash text) ≡ time_text p.start (p.start + p.slots)
  pub weeks : after_slash (after_slash text) ≡ weeks_text p.weeks

pub parts : (text : List ℕ) (p : Pattern) → text ≡ meeting_text p → Parts text p
parts text p is =
    let times = time_text p.start (p.start + p.slots) in
    let cut : text ≡ days_text p.days ++ 47 ∷ (times ++ 47 ∷ weeks_text p.weeks) = is ∙ meeting_text-cut p in
    let rest : after_slash text ≡ times ++ 47 ∷ weeks_text p.weeks =
    ap (λ t. after_slash t) cut ∙ after_slash-at (days_text p.days) (times ++ 47 ∷ weeks_text p.weeks) (days-no_slash p.days) in
    record {
      days = ap (λ t. before_slash t) cut ∙ before_slash-at (days_text p.days) (times ++ 47 ∷ weeks_text p.weeks) (days-no_slash p.days);
      time = ap (λ t. before_slash t) rest ∙ before_slash-at times (weeks_text p.weeks) (time-no_slash p.start (p.start + p.slots));
      weeks = ap (λ t. after_slash t) rest ∙ after_slash-at times (weeks_text p.weeks) (time-no_slash p.start (p.start + p.slots));
    }

-- a text of which something stands after a slash has one
joined : (text : List ℕ) → 0 < length (after_slash text) → text ≡ before_slash text ++ 47 ∷ after_slash text
joined text some = by_place (cases_lt (position_or_len (λ byte. byte == 47) text) (length text))
  where
    by_place : (position_or_len (λ byte. byte == 47) text < length text) ⊎ (length text ≤ position_or_len (λ byte. byte == 47) text)
        → text ≡ before_slash text ++ 47 ∷ after_slash text
    by_place (inl inside) =
        let slash : get_or text (position_or_len (λ byte. byte == 47) text) 0 ≡ 47 = eqb-true _ _ (passes_at_first (λ byte. byte == 47) text 0 inside) in
        split_at_first (λ byte. byte == 47) text 0 inside ∙ ap (λ byte. before_slash text ++ byte ∷ after_slash text) slash
    by_place (inr past) =
        let none : after_slash text ≡ [] = drop_all (position_or_len (λ byte. byte == 47) text + 1) text (omega (arith, past)) in
        absurd (omega (arith, some, ap length none))

some_weeks : (text : List ℕ) (weeks : ℕ) → IsWeeksText text weeks → 0 < length text
unfolding weeks_in
some_weeks [] weeks says = absurd (omega (arith, says.some_week, one_set [] weeks says))
some_weeks (byte ∷ more) weeks says = omega arith

-- the parts that a text says are those of a meeting's text
pub whole : (text : List ℕ) (p : Pattern) → SaysDays text p.days → SaysTime text p.start (p.start + p.slots) → SaysWeeks text p.weeks → text ≡ meeting_text p
unfolding time_text
whole text p days time weeks =
    let some = some_weeks (after_slash (after_slash text)) p.weeks weeks in
    let rest : after_slash text ≡ before_slash (after_slash text) ++ 47 ∷ after_slash (after_slash text) = joined (after_slash text) some in
    let more : 0 < length (after_slash text) = omega (arith, ap length rest, length-append (before_slash (after_slash text)) (47 ∷ after_slash (after_slash text))) in
    joined text more
    ∙ ap (λ t. before_slash text ++ 47 ∷ t) rest
    ∙ ap (λ t. t ++ 47 ∷ (before_slash (after_slash text) ++ 47 ∷ after_slash (after_slash text))) days.is_text
    ∙ ap (λ t. days_text p.days ++ 47 ∷ (t ++ 47 ∷ after_slash (after_slash text))) time.is_text
    ∙ ap (λ t. days_text p.days ++ 47 ∷ (time_text p.start (p.start + p.slots) ++ 47 ∷ t)) weeks.is_text
    ∙ sym (meeting_text-cut p)

pub says_days : (text : List ℕ) (p : Pattern) → IsPattern p → text ≡ meeting_text p → SaysDays text p.days
says_days text p is same = record { some_day = is.some_day; weekdays = is.weekdays; is_text = (parts text p same).days }

pub says_time : (text : List ℕ) (p : Pattern) → IsPattern p → text ≡ meeting_text p → SaysTime text p.start (p.start + p.slots)
says_time text p is same = record { begins = is.begins; hours = omega (arith, is.ends); is_text = (parts text p same).time }

pub says_weeks : (text : List ℕ) (p : Pattern) → IsPattern p → text ≡ meeting_text p → SaysWeeks text p.weeks
says_weeks text p is same = record { some_week = is.some_week; sixty_weeks = is.sixty_weeks; is_text = (parts text p same).weeks }

-- the time that is said is the meeting's
pub time_of_text : (text : List ℕ) (p : Pattern) (start end : ℕ) → text ≡ meeting_text p → SaysTime text start end → (start ≡ p.start) × (end ≡ p.start + p.slots)
time_of_text text p start end same says = one_time start end p.start (p.start + p.slots) (sym says.is_text ∙ (parts text p same).time)

-- the meeting of what was read
abbrev pub read : ℕ → ℕ → ℕ → ℕ → Pattern
read days start end weeks = record { days = days; start = start; slots = end - start; weeks = weeks }

same_pattern : (p q : Pattern) → p.days ≡ q.days → p.start ≡ q.start → p.slots ≡ q.slots → p.weeks ≡ q.weeks → p ≡ q
same_pattern p q days start slots weeks = λ i. record { days = days i; start = start i; slots = slots i; weeks = weeks i }

-- what was read is the meeting whose text it is
pub read_is : (text : List ℕ) (p : Pattern) (days start end weeks : ℕ) → IsPattern p → text ≡ meeting_text p → SaysDays text days → SaysTime text start end
    → SaysWeeks text weeks → read days start end weeks ≡ p
read_is text p days start end weeks is same in_days in_time in_weeks =
    let time = time_of_text text p start end same in_time in
    let slots : end - start ≡ p.slots = omega (arith, time.0, time.1) in
    same_pattern (read days start end weeks) p
    (sym (days_in-days_text days in_days.weekdays)
    ∙ ap days_in (sym in_days.is_text ∙ (parts text p same).days)
    ∙ days_in-days_text p.days is.weekdays)
    time.0 slots
    (sym (one_set (after_slash (after_slash text)) weeks in_weeks) ∙ one_set (after_slash (after_slash text)) p.weeks (says_weeks text p is same))

-- what was read has the text that it was read from
pub text_of_read : (text : List ℕ) (days start end weeks : ℕ) → start ≤ end → SaysDays text days → SaysTime text start end → SaysWeeks text weeks
    → text ≡ meeting_text (read days start end weeks)
text_of_read text days start end weeks order in_days in_time in_weeks =
    let until : end ≡ start + (end - start) = omega (arith, order) in
    whole text (read days start end weeks) in_days (subst (λ k. SaysTime text start k) until in_time) in_weeks

-- a text of five pieces
pub five_pieces : (a b c d e : List ℕ) (p : Pattern) → a ≡ days_text p.days → b ≡ a ++ 47 ∷ [] → c ≡ b ++ time_text p.start (p.start + p.slots)
    → d ≡ c ++ 47 ∷ [] → e ≡ d ++ weeks_text p.weeks → e ≡ meeting_text p
unfolding meeting_text
five_pieces a b c d e p first second third fourth fifth =
    let days = days_text p.days in
    let times = time_text p.start (p.start + p.slots) in
    let weeks = weeks_text p.weeks in
    fifth
    ∙ ap (λ t. t ++ weeks) (fourth ∙ ap (λ t. t ++ 47 ∷ []) (third ∙ ap (λ t. t ++ times) (second ∙ ap (λ t. t ++ 47 ∷ []) first)))
    ∙ append_assoc ((days ++ 47 ∷ []) ++ times) (47 ∷ []) weeks
    ∙ ap (λ t. t ++ 47 ∷ weeks) (append_assoc days (47 ∷ []) times)
