-- The calendars and credits after an enrolment is made or taken away.
use Rattle.std.specs.Prelude.{◌≡◌, ◌+◌, ◌*◌, ◌<◌, ◌≤◌, ◌==◌, ℕ, ◌||◌, ◌&&◌, cond, length, List}
use Rattle.sect_base.specs.declared.choice.Choice.{Choice}
use Rattle.sect_catalog.specs.declared.row.OfferingRow.{OfferingRow}
use Rattle.sect_model.specs.declared.held.Enrolment.{Enrolment}
use Rattle.sect_weeks.specs.declared.weeks.Row.{Row}
use Rattle.sect_weeks.specs.declared.weeks.Weeks.{Weeks}
use Rattle.sect_weeks.specs.Credits.{course_credits, all_credits}
use Rattle.sect_weeks.specs.Rows.{is_taken, credits_at, has_row}
use Rattle.sect_weeks.specs.Taken.{Adds, sections_take, enrolments_take}

-- the slots of the choice's sections are taken in the row's calendar, and its credits, at most 255, are counted
pub record TakesChoice (r s : Row) (rows : List OfferingRow) (choice : Choice) : Type 0 where
  pub student : s.student ≡ r.student
  pub taken : Adds r.calendar s.calendar (sections_take rows choice.sections)
  pub credits : s.credits ≡ course_credits rows choice.course + r.credits
  pub few : course_credits rows choice.course ≤ 255

-- the slots of the enrolment's sections are taken in its student's calendar, its credits, at most 255, are counted, and the rest stays
pub record TakesMore (t u : Weeks) (rows : List OfferingRow) (e : Enrolment) : Type 0 where
  pub taken : (q day slot : ℕ) → slot < 288 → is_taken u q day slot ≡ (is_taken t q day slot || e.student.0 == q && sections_take rows e.choice.sections day slot)
  pub credits : (q : ℕ) → credits_at u q ≡ cond (e.student.0 == q) (course_credits rows e.choice.course) 0 + credits_at t q
  pub few : course_credits rows e.choice.course ≤ 255
  pub rows_stay : (q : ℕ) → has_row u q ≡ has_row t q

-- the slots of these enrolments are taken in the student's calendar, and no others, their credits are the student's, at most 255 each, and those
-- of other students stay
pub record TakesAnew (t u : Weeks) (rows : List OfferingRow) (student : ℕ) (held : List Enrolment) : Type 0 where
  pub taken : (q day slot : ℕ) → slot < 288 → is_taken u q day slot ≡ cond (student == q) (enrolments_take rows held day slot) (is_taken t q day slot)
  pub credits : (q : ℕ) → credits_at u q ≡ cond (student == q) (all_credits rows held) (credits_at t q)
  pub few : all_credits rows held ≤ 255 * length held
  pub rows_stay : (q : ℕ) → has_row u q ≡ has_row t q
