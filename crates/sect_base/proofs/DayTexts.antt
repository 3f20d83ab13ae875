-- A text of a day against its ten bytes.
use Rattle.std.proofs.Common.{◌≡◌, ℕ, ◌+◌, ◌*◌, ◌/◌, ◌%◌, ◌<◌, List, ◌∷◌, ◌++◌, length, get_or, sym, ap, subst, ◌∙◌, inl, inr, arith}
use Rattle.std.specs.Prelude.{pos, ◌⊎◌}
use Rattle.std.proofs.lemmas.Slice.Eq.{text_from_reads}
use Rattle.jiff_core.specs.Calendar.{IsDate, IsCivilDate, days_from_civil, day_count}
use Rattle.jiff_core.proofs.CalendarLemmas.{day_count-lt_year, day_count-lt_month, day_count-day, days_from_civil-day_count}
use Rattle.std.proofs.lemmas.Int.{ints}
use Rattle.std.proofs.lemmas.Bool.{cases_order}
use Rattle.sect_base.specs.DayText.{date_text, IsDayText}
use Rattle.sect_base.specs.Digits.{two_digits}

-- two digits stand at this place
pub record Says (text : List ℕ) (at n : ℕ) : Type 0 where
  pub within : n < 100
  pub tens : get_or text at 0 ≡ 48 + n / 10
  pub ones : get_or text (at + 1) 0 ≡ 48 + n % 10

-- the ten bytes of a day
pub record SaysDate (text : List ℕ) (c y m d : ℕ) : Type 0 where
  pub ten : length text ≡ 10
  pub first_dash : get_or text 4 0 ≡ 45
  pub second_dash : get_or text 7 0 ≡ 45
  pub century : Says text 0 c
  pub year : Says text 2 y
  pub month : Says text 5 m
  pub date : Says text 8 d

spelled_date : (text : List ℕ) (century year month date : ℕ) → SaysDate text century year month date
    → text ≡ two_digits century ++ two_digits year ++ 45 ∷ two_digits month ++ 45 ∷ two_digits date
spelled_date text century year month date says = text_from_reads text _ says.ten (
  says.century.tens,
  (
    says.century.ones,
    (
      says.year.tens,
      (
        says.year.ones,
        (
          says.first_dash,
          (says.month.tens, (says.month.ones, (says.second_dash, (says.date.tens, (says.date.ones, tt))))),
        ),
      ),
    ),
  ),
)

whole_year : (century year : ℕ) → year < 100 → ((century * 100 + year) / 100 ≡ century) × ((century * 100 + year) % 100 ≡ year)
whole_year century year small = (omega arith, omega arith)

pub is_day_text : (text : List ℕ) (century year month date day : ℕ) → SaysDate text century year month date
    → IsDate (pos (century * 100 + year)) (pos month) (pos date) → days_from_civil (pos (century * 100 + year)) month date ≡ pos day
    → IsDayText text day
is_day_text text century year month date day says is_date number =
    let parts = whole_year century year says.year.within in
    record {
      year = century * 100 + year;
      month = month;
      date = date;
      is_date = is_date;
      is_text = rw (parts.0, parts.1) (spelled_date text century year month date says);
      is_number = number;
    }

-- two digits say one number
one_number : (text : List ℕ) (at n m : ℕ) → Says text at n → get_or text at 0 ≡ 48 + m / 10 → get_or text (at + 1) 0 ≡ 48 + m % 10 → m ≡ n
one_number text at n m says tens ones = omega (arith, says.tens, says.ones)

pub date_of_text : (text : List ℕ) (century year month date day : ℕ) → SaysDate text century year month date → (is : IsDayText text day)
    → IsDate (pos (century * 100 + year)) (pos month) (pos date)
date_of_text text century year month date day says is =
    let at : (k : ℕ) → get_or text k 0 ≡ get_or (date_text is.year is.month is.date) k 0 = λ k. ap (λ t. get_or t k 0) is.is_text in
    let high = one_number text 0 century (is.year / 100) says.century (at 0) (at 1) in
    let low = one_number text 2 year (is.year % 100) says.year (at 2) (at 3) in
    let same_year : is.year ≡ century * 100 + year = omega (arith, high, low) in
    let same_month = one_number text 5 month is.month says.month (at 5) (at 6) in
    let same_date = one_number text 8 date is.date says.date (at 8) (at 9) in
    rw (← same_year, ← same_month, ← same_date) is.is_date

-- a text is of one date
record SameDate (y m d y₂ m₂ d₂ : ℕ) : Type 0 where
  pub year : y ≡ y₂
  pub month : m ≡ m₂
  pub date : d ≡ d₂

date_of-text : (y m d y₂ m₂ d₂ : ℕ) → date_text y m d ≡ date_text y₂ m₂ d₂ → SameDate y m d y₂ m₂ d₂
date_of-text y m d y₂ m₂ d₂ same =
    let at : (k : ℕ) → get_or (date_text y m d) k 0 ≡ get_or (date_text y₂ m₂ d₂) k 0 = λ k. ap (λ t. get_or t k 0) same in
    let high : y / 100 ≡ y₂ / 100 = omega (arith, at 0, at 1) in
    let low : y % 100 ≡ y₂ % 100 = omega (arith, at 2, at 3) in
    record { year = omega (arith, high, low); month = omega (arith, at 5, at 6); date = omega (arith, at 8, at 9) }

-- a text says one day
pub one_day : (text : List ℕ) (a b : ℕ) → IsDayText text a → IsDayText text b → a ≡ b
one_day text a b first second =
    let same = date_of-text first.year first.month first.date second.year second.month second.date (sym first.is_text ∙ second.is_text) in
    let number : pos a ≡ pos b =
    sym first.is_number
    ∙ ap (λ y. days_from_civil (pos y) first.month first.date) same.year
    ∙ ap (λ m. days_from_civil (pos second.year) m first.date) same.month
    ∙ ap (days_from_civil (pos second.year) second.month) same.date
    ∙ second.is_number in
    omega (arith, ints, number)

civil : (y m d : ℕ) → IsDate (pos y) (pos m) (pos d) → IsCivilDate (pos y) m d
civil y m d is = (
  (omega (arith, ints, is.0.0), omega (arith, ints, is.0.1)),
  (omega (arith, ints, is.1.0), omega (arith, ints, is.1.1)),
  (omega (arith, ints, is.2.0), omega (arith, ints, is.2.1)),
)

same_count : (y m d y₂ m₂ d₂ n : ℕ) → days_from_civil (pos y) m d ≡ pos n → days_from_civil (pos y₂) m₂ d₂ ≡ pos n
    → day_count (pos y) m d ≡ day_count (pos y₂) m₂ d₂
same_count y m d y₂ m₂ d₂ n number other =
    let one = rw number at (days_from_civil-day_count (pos y) m d) in
    let two = rw other at (days_from_civil-day_count (pos y₂) m₂ d₂) in
    omega (arith, one, two)

same_year : (y m d y₂ m₂ d₂ : ℕ) → IsCivilDate (pos y) m d → IsCivilDate (pos y₂) m₂ d₂ → day_count (pos y) m d ≡ day_count (pos y₂) m₂ d₂ → y ≡ y₂
same_year y m d y₂ m₂ d₂ first second count = by_order (cases_order y y₂)
  where
    by_order : (y ≡ y₂) ⊎ ((y < y₂) ⊎ (y₂ < y)) → y ≡ y₂
    by_order (inl same) = same
    by_order (inr (inl less)) =
        absurd (omega (arith, count, day_count-lt_year (pos y) m d (pos y₂) m₂ d₂ first second.2.0 (omega (arith, ints, less))))
    by_order (inr (inr more)) =
        absurd (omega (arith, count, day_count-lt_year (pos y₂) m₂ d₂ (pos y) m d second first.2.0 (omega (arith, ints, more))))

same_month : (y m d m₂ d₂ : ℕ) → IsCivilDate (pos y) m d → IsCivilDate (pos y) m₂ d₂ → day_count (pos y) m d ≡ day_count (pos y) m₂ d₂ → m ≡ m₂
same_month y m d m₂ d₂ first second count = by_order (cases_order m m₂)
  where
    by_order : (m ≡ m₂) ⊎ ((m < m₂) ⊎ (m₂ < m)) → m ≡ m₂
    by_order (inl same) = same
    by_order (inr (inl less)) = absurd (omega (arith, count, day_count-lt_month (pos y) m d m₂ d₂ first second.2.0 less))
    by_order (inr (inr more)) = absurd (omega (arith, count, day_count-lt_month (pos y) m₂ d₂ m d second first.2.0 more))

-- two dates with one number are one
same_date : (y m d y₂ m₂ d₂ n : ℕ) → IsCivilDate (pos y) m d → IsCivilDate (pos y₂) m₂ d₂ → days_from_civil (pos y) m d ≡ pos n
    → days_from_civil (pos y₂) m₂ d₂ ≡ pos n → SameDate y m d y₂ m₂ d₂
same_date y m d y₂ m₂ d₂ n first second number other =
    let count = same_count y m d y₂ m₂ d₂ n number other in
    let year = same_year y m d y₂ m₂ d₂ first second count in
    let moved : IsCivilDate (pos y) m₂ d₂ = subst (λ k. IsCivilDate (pos k) m₂ d₂) (sym year) second in
    let in_year : day_count (pos y) m d ≡ day_count (pos y) m₂ d₂ = count ∙ ap (λ k. day_count (pos k) m₂ d₂) (sym year) in
    let month = same_month y m d m₂ d₂ first moved in_year in
    let in_month : day_count (pos y) m d ≡ day_count (pos y) m d₂ = in_year ∙ ap (λ k. day_count (pos y) k d₂) (sym month) in
    record { year = year; month = month; date = omega (arith, in_month, day_count-day (pos y) m d d₂ first.2.0 second.2.0) }

-- a day has one spelling
pub one_spelling : (text other : List ℕ) (day : ℕ) → IsDayText text day → IsDayText other day → text ≡ other
one_spelling text other day first second =
    let same = same_date first.year first.month first.date second.year second.month second.date day
    (civil first.year first.month first.date first.is_date) (civil second.year second.month second.date second.is_date) first.is_number second.is_number in
    first.is_text
    ∙ ap (λ y. date_text y first.month first.date) same.year
    ∙ ap (λ m. date_text second.year m first.date) same.month
    ∙ ap (date_text second.year second.month) same.date
    ∙ sym second.is_text
