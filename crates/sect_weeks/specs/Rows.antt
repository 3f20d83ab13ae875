-- The calendars of students.
use Rattle.std.specs.Prelude.{◌≡◌, ℕ, Bool, true, false, ◌==◌, cond, List, slice_get, Option, Some}
use Rattle.std.specs.Option.{is_some, option_map, option_map_or, option_and_then}
use Rattle.std.specs.Bool.{then_some}
use Rattle.sect_base.specs.Table.{value_at}
use Rattle.sect_base.specs.Calendar.{is_set}
use Rattle.sect_weeks.specs.declared.weeks.Row.{Row}
use Rattle.sect_weeks.specs.declared.weeks.Weeks.{Weeks}

-- the row at a place, where it is the student's
abbrev pub own_row : List Row → ℕ → Option ℕ → Option Row
own_row rows id place = option_and_then (λ i. option_and_then (λ r. then_some (r.student.0 == id) r) (slice_get rows i)) place

-- the place, where its row is the student's
abbrev pub own_place : List Row → ℕ → Option ℕ → Option ℕ
own_place rows id place = option_and_then (λ i. option_and_then (λ r. then_some (r.student.0 == id) i) (slice_get rows i)) place

-- the place of the student's row
abbrev pub place_of : Weeks → ℕ → Option ℕ
place_of t id = own_place t.rows.items id (value_at t.places id)

-- the student's row
abbrev pub row_of : Weeks → ℕ → Option Row
row_of t id = own_row t.rows.items id (value_at t.places id)

-- the student's calendar
abbrev pub calendar_of : Weeks → ℕ → Option (List ℕ)
calendar_of t id = option_map (λ r. r.calendar) (row_of t id)

-- the student has a calendar
abbrev pub has_row : Weeks → ℕ → Bool
has_row t id = is_some (calendar_of t id)

-- the slot of the day is taken in the student's calendar
abbrev pub is_taken : Weeks → ℕ → ℕ → ℕ → Bool
is_taken t id day slot = option_map_or (λ words. is_set words day slot) (calendar_of t id) false

-- the student's credits, 0 where the student has no row
abbrev pub credits_at : Weeks → ℕ → ℕ
credits_at t id = option_map_or (λ r. r.credits) (row_of t id) 0

-- the student has this calendar and these credits, and the others have what they had
pub record Puts (t u : Weeks) (id : ℕ) (words : List ℕ) (credits : ℕ) : Type 0 where
  pub calendars : (q : ℕ) → calendar_of u q ≡ cond (id == q) (Some words) (calendar_of t q)
  pub counted : (q : ℕ) → credits_at u q ≡ cond (id == q) credits (credits_at t q)

-- what is taken and counted stays, and no calendar goes
pub record Keeps (t u : Weeks) : Type 0 where
  pub taken : (q day slot : ℕ) → is_taken u q day slot ≡ is_taken t q day slot
  pub credits : (q : ℕ) → credits_at u q ≡ credits_at t q
  pub rows : (q : ℕ) → has_row t q ≡ true → has_row u q ≡ true
