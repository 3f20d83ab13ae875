-- The text of a day by its number.
use Rattle.std.specs.Prelude.{ℕ, zero, suc, Bool, ◌&&◌, nat_le, List, [], if◌then◌else◌, Option, Some, None, pos}
use Rattle.std.specs.Ordering.{int_eq}
use Rattle.jiff_core.specs.Calendar.{days_in_month, days_from_civil}
use Rattle.sect_base.specs.DayText.{date_text}

-- the first of the two that is there
abbrev pub either_of : {X : Type 0} → Option X → Option X → Option X
either_of None other = other
either_of (Some x) other = Some x

-- what is found at the largest number below the bound at which anything is
unfoldable pub found_below : {X : Type 0} → (ℕ → Option X) → ℕ → Option X
found_below find zero = None
found_below find (suc n) = either_of (find n) (found_below find n)

-- the date is in the calendar and has this number, from 1970-01-01 as 0
abbrev pub has_number : ℕ → ℕ → ℕ → ℕ → Bool
has_number day year month date =
    nat_le 1 month && nat_le month 12 && nat_le 1 date && nat_le date (days_in_month (pos year) month) && int_eq (days_from_civil (pos year) month date) (pos day)

-- the text of the date, where it has the number
abbrev pub text_if : ℕ → ℕ → ℕ → ℕ → Option (List ℕ)
text_if day year month date = if has_number day year month date then Some (date_text year month date) else None

-- the text, or nothing where there is none
abbrev pub or_nothing : Option (List ℕ) → List ℕ
or_nothing None = []
or_nothing (Some text) = text

-- `YYYY-MM-DD`, the date that has the number
unfoldable pub day_text : ℕ → List ℕ
day_text day = or_nothing (found_below (λ year. found_below (λ month. found_below (text_if day year month) 32) 13) 10000)
