-- Which bytes stand in the texts of words.
use Rattle.std.proofs.Common.{◌≡◌, ℕ, ◌==◌, ◌+◌, ◌*◌, ◌/◌, ◌%◌, ◌<◌, ◌≤◌, ◌^◌, Bool, true, false, List, [], ◌∷◌, ◌++◌, map, sym, subst, arith, decimal, nat_lt, ◌⊎◌, inl, inr, lit≤, append_assoc}
use Rattle.std.specs.Prelude.{if◌then◌else◌}
use Rattle.std.specs.List.{AllByRecursion, join_with_byte}
use Rattle.std.specs.Str.{bytes_eq}
use Rattle.std.proofs.lemmas.Fmt.{decimal_by_steps}
use Rattle.std.proofs.lemmas.Bool.{ne_eqb, and_left}
use Rattle.sect_base.specs.Digits.{two_digits, short_digits}
use Rattle.sect_base.specs.Pattern.{Pattern, has_bit}
use Rattle.sect_base.specs.WeekdayText.{days_text, letters_of, WEEKDAY_LETTERS}
use Rattle.sect_base.specs.ClockText.{clock_text, time_text}
use Rattle.sect_base.specs.WeekText.{Run, run_text, runs_from, weeks_text}
use Rattle.sect_base.specs.MeetingText.{meeting_text}
use Rattle.sect_base.specs.DayText.{date_text, IsDayText}
use Rattle.sect_words.specs.Parts.{behind, joined}
use Rattle.sect_words.specs.Words.{dash}
use Rattle.sect_words.proofs.Pieces.{Lacks}

-- no byte is below this one
abbrev pub AtLeast : ℕ → List ℕ → Type 0
AtLeast low text = AllByRecursion (λ byte. low ≤ byte) text

abbrev pub IsDigit : ℕ → Type 0
IsDigit byte = (48 ≤ byte) × (byte ≤ 57)

module _ (P : ℕ → Type 0) where
  pub all_append : (xs ys : List ℕ) → AllByRecursion P xs → AllByRecursion P ys → AllByRecursion P (xs ++ ys)
  all_append [] ys a b = b
  all_append (x ∷ xs) ys a b = (a.0, all_append xs ys a.1 b)

  pub all_weaker : (Q : ℕ → Type 0) → ((x : ℕ) → P x → Q x) → (xs : List ℕ) → AllByRecursion P xs → AllByRecursion Q xs
  all_weaker Q f [] a = tt
  all_weaker Q f (x ∷ xs) a = (f x a.0, all_weaker Q f xs a.1)

  all_behind : (mark : ℕ) → P mark → (parts : List (List ℕ)) → AllByRecursion (AllByRecursion P) parts → AllByRecursion P (behind mark parts)
  all_behind mark h [] a = tt
  all_behind mark h (part ∷ parts) a = (h, all_append part (behind mark parts) a.0 (all_behind mark h parts a.1))

  -- what holds of the mark and of each byte of the parts holds of the parts in a row
  pub all_joined : (mark : ℕ) → P mark → (parts : List (List ℕ)) → AllByRecursion (AllByRecursion P) parts → AllByRecursion P (joined mark parts)
  all_joined mark h [] a = tt
  all_joined mark h (part ∷ parts) a = all_append part (behind mark parts) a.0 (all_behind mark h parts a.1)

  join_all : (mark : ℕ) → P mark → (parts : List (List ℕ)) → AllByRecursion (AllByRecursion P) parts → AllByRecursion P (join_with_byte mark parts)
  join_all mark h [] a = tt
  join_all mark h (part ∷ []) a = a.0
  join_all mark h (part ∷ next ∷ parts) a = all_append part (mark ∷ join_with_byte mark (next ∷ parts)) a.0 (h, join_all mark h (next ∷ parts) a.1)

-- the texts of values have what each of them has
pub each_text : (P : ℕ → Type 0) {X : Type 0} {F : X → Type 0} (f : X → List ℕ) → ((x : X) → F x → AllByRecursion P (f x)) → (xs : List X) → AllByRecursion F xs → AllByRecursion (AllByRecursion P) (map f xs)
each_text P f h [] a = tt
each_text P f h (x ∷ xs) a = (h x a.0, each_text P f h xs a.1)

-- a number is of digits
pub digits_decimal : (n : ℕ) → n < 2 ^ 64 → AllByRecursion IsDigit (decimal n)
digits_decimal = decimal_by_steps (λ n ds. AllByRecursion IsDigit ds) (λ n low. ((omega arith, omega arith), tt))
    (λ n ds high all. all_append IsDigit ds ((48 + n % 10) ∷ []) all ((omega arith, omega arith), tt))

pub lacks_decimal : (mark n : ℕ) → (mark < 48) ⊎ (57 < mark) → n < 2 ^ 64 → Lacks mark (decimal n)
lacks_decimal mark n (inl low) small = all_weaker IsDigit (λ b. (b == mark) ≡ false) (λ b d. ne_eqb b mark (λ e. absurd (omega (arith, e, d, low)))) (decimal n) (digits_decimal n small)
lacks_decimal mark n (inr high) small = all_weaker IsDigit (λ b. (b == mark) ≡ false) (λ b d. ne_eqb b mark (λ e. absurd (omega (arith, e, d, high)))) (decimal n) (digits_decimal n small)

-- a text of larger bytes lacks the mark
pub lacks_low : (mark low : ℕ) (text : List ℕ) → mark < low → AtLeast low text → Lacks mark text
lacks_low mark low text below all = all_weaker (λ b. low ≤ b) (λ b. (b == mark) ≡ false) (λ b h. ne_eqb b mark (λ e. absurd (omega (arith, e, h, below)))) text all

-- a text begins with no `-`, whatever follows it
abbrev pub NoDash : List ℕ → Type 0
NoDash text = (rest : List ℕ) → bytes_eq (text ++ rest) dash ≡ false

no_dash_first : (b : ℕ) (bs : List ℕ) → (b ≡ 45 → ⊥) → NoDash (b ∷ bs)
no_dash_first b bs other rest = and_left (b == 45) _ (ne_eqb b 45 other)

-- a first byte that is a digit
abbrev BeginsDigit : List ℕ → Type 0
BeginsDigit [] = ⊥
BeginsDigit (b ∷ bs) = 48 ≤ b

begins_append : (ds more : List ℕ) → BeginsDigit ds → BeginsDigit (ds ++ more)
begins_append [] more h = absurd h
begins_append (d ∷ ds) more h = h

begins_decimal : (n : ℕ) → n < 2 ^ 64 → BeginsDigit (decimal n)
begins_decimal = decimal_by_steps (λ n ds. BeginsDigit ds) (λ n low. omega arith) (λ n ds high h. begins_append ds ((48 + n % 10) ∷ []) h)

no_dash_digit : (ds : List ℕ) → BeginsDigit ds → NoDash ds
no_dash_digit [] h = absurd h
no_dash_digit (d ∷ ds) h = no_dash_first d ds (λ e. absurd (omega (arith, e, h)))

-- a number begins with no `-`
pub no_dash_decimal : (n : ℕ) → n < 2 ^ 64 → NoDash (decimal n)
no_dash_decimal n small = no_dash_digit (decimal n) (begins_decimal n small)

-- ---- meetings and days

if_all : (P : ℕ → Type 0) (b : Bool) (xs ys : List ℕ) → AllByRecursion P xs → AllByRecursion P ys → AllByRecursion P (if b then xs else ys)
if_all P true xs ys p q = p
if_all P false xs ys p q = q

letters_all : (days day : ℕ) (letters : List ℕ) → AtLeast 65 letters → AtLeast 65 (letters_of days day letters)
letters_all days day [] a = tt
letters_all days day (letter ∷ more) a =
    if_all (λ b. 65 ≤ b) (has_bit days day) (letter ∷ letters_of days (day + 1) more) (letters_of days (day + 1) more) (a.0, letters_all days (day + 1) more a.1) (letters_all days (day + 1) more a.1)

days_all : (days : ℕ) → AtLeast 65 (days_text days)
unfolding days_text
days_all days = letters_all days 0 WEEKDAY_LETTERS (lit≤ tt, (lit≤ tt, (lit≤ tt, (lit≤ tt, (lit≤ tt, (lit≤ tt, (lit≤ tt, tt)))))))

two_all : (n : ℕ) → AtLeast 45 (two_digits n)
two_all n = (omega arith, (omega arith, tt))

short_all : (n : ℕ) → AtLeast 45 (short_digits n)
short_all n = if_all (λ b. 45 ≤ b) (nat_lt n 10) ((48 + n) ∷ []) (two_digits n) (omega arith, tt) (two_all n)

clock_all : (slot : ℕ) → AtLeast 45 (clock_text slot)
clock_all slot = all_append (λ b. 45 ≤ b) (two_digits (slot / 12)) (two_digits (5 * (slot % 12))) (two_all (slot / 12)) (two_all (5 * (slot % 12)))

time_all : (start end : ℕ) → AtLeast 45 (time_text start end)
unfolding time_text
time_all start end = all_append (λ b. 45 ≤ b) (clock_text start) (45 ∷ clock_text end) (clock_all start) (lit≤ tt, clock_all end)

run_all : (run : Run) → AtLeast 45 (run_text run)
run_all run = if_all (λ b. 45 ≤ b) (run.first == run.last) (short_digits (run.first + 1)) (short_digits (run.first + 1) ++ 45 ∷ short_digits (run.last + 1)) (short_all (run.first + 1))
    (all_append (λ b. 45 ≤ b) (short_digits (run.first + 1)) (45 ∷ short_digits (run.last + 1)) (short_all (run.first + 1)) (lit≤ tt, short_all (run.last + 1)))

any_run : (runs : List Run) → AllByRecursion (AtLeast 45) (map run_text runs)
any_run [] = tt
any_run (run ∷ runs) = (run_all run, any_run runs)

weeks_all : (weeks : ℕ) → AtLeast 45 (weeks_text weeks)
unfolding weeks_text
weeks_all weeks = join_all (λ b. 45 ≤ b) 46 (lit≤ tt) (map run_text (runs_from weeks 0 60)) (any_run (runs_from weeks 0 60))

-- in a meeting's text no byte is below `-`
pub meeting_all : (p : Pattern) → AtLeast 45 (meeting_text p)
unfolding meeting_text
meeting_all p =
    let days : AtLeast 45 (days_text p.days) = all_weaker (λ b. 65 ≤ b) (λ b. 45 ≤ b) (λ b h. omega (arith, h)) (days_text p.days) (days_all p.days) in
    let times : AtLeast 45 (47 ∷ time_text p.start (p.start + p.slots)) = (lit≤ tt, time_all p.start (p.start + p.slots)) in
    all_append (λ b. 45 ≤ b) (days_text p.days ++ 47 ∷ time_text p.start (p.start + p.slots)) (47 ∷ weeks_text p.weeks)
    (all_append (λ b. 45 ≤ b) (days_text p.days) (47 ∷ time_text p.start (p.start + p.slots)) days times) (lit≤ tt, weeks_all p.weeks)

no_dash_days : (days more : List ℕ) → AtLeast 65 days → NoDash (days ++ 47 ∷ more)
no_dash_days [] more a = no_dash_first 47 more (λ e. absurd (omega (arith, e)))
no_dash_days (day ∷ days) more a = no_dash_first day (days ++ 47 ∷ more) (λ e. absurd (omega (arith, e, a.0)))

-- a meeting begins with no `-`
pub no_dash_meeting : (p : Pattern) → NoDash (meeting_text p)
unfolding meeting_text
no_dash_meeting p =
    subst NoDash (sym (append_assoc (days_text p.days) (47 ∷ time_text p.start (p.start + p.slots)) (47 ∷ weeks_text p.weeks)))
    (no_dash_days (days_text p.days) (time_text p.start (p.start + p.slots) ++ 47 ∷ weeks_text p.weeks) (days_all p.days))

date_all : (year month date : ℕ) → AtLeast 45 (date_text year month date)
date_all year month date =
    (omega arith, (omega arith, (omega arith, (omega arith, (lit≤ tt, (omega arith, (omega arith, (lit≤ tt, (omega arith, (omega arith, tt))))))))))

-- in a day's text no byte is below `-`
pub day_all : (text : List ℕ) (day : ℕ) → IsDayText text day → AtLeast 45 text
day_all text day is = subst (AtLeast 45) (sym is.is_text) (date_all is.year is.month is.date)

pub no_dash_date : (text : List ℕ) (day : ℕ) → IsDayText text day → NoDash text
no_dash_date text day is =
    subst NoDash (sym is.is_text) (no_dash_first (48 + is.year / 100 / 10) ((48 + is.year / 100 % 10) ∷ (two_digits (is.year % 100) ++ 45 ∷ two_digits is.month ++ 45 ∷ two_digits is.date)) (λ e. absurd (omega (arith, e))))
