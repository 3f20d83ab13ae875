-- The text of a day.
use Rattle.std.specs.Prelude.{◌≡◌, ℕ, ◌/◌, ◌%◌, List, ◌∷◌, ◌++◌, pos}
use Rattle.sect_base.specs.Digits.{two_digits}
use Rattle.jiff_core.specs.Calendar.{IsDate, days_from_civil}

-- `YYYY-MM-DD`
abbrev pub date_text : ℕ → ℕ → ℕ → List ℕ
date_text year month date = two_digits (year / 100) ++ two_digits (year % 100) ++ 45 ∷ two_digits month ++ 45 ∷ two_digits date

-- the text says this day
pub record IsDayText (text : List ℕ) (day : ℕ) : Type 0 where
  pub year : ℕ
  pub month : ℕ
  pub date : ℕ
  pub is_date : IsDate (pos year) (pos month) (pos date)
  pub is_text : text ≡ date_text year month date
  pub is_number : days_from_civil (pos year) month date ≡ pos day
