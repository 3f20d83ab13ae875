-- When a student is in class, and the calendars that tell it, with the credits that the student holds.
use Rattle.std.specs.Prelude.{◌≡◌, ◌*◌, ◌<◌, ◌≤◌, ℕ, Bool, true, length, List}
use Rattle.std.specs.List.{list_any}
use Rattle.std.specs.Option.{is_some}
use Rattle.sect_base.specs.declared.ids.StudentId.{StudentId}
use Rattle.sect_base.specs.Calendar.{is_set, takes_pair}
use Rattle.sect_people.specs.Student.{find_student}
use Rattle.sect_model.specs.World.{World, held_by, meetings_of}
use Rattle.sect_model.specs.Allowed.{credits_held}
use Rattle.sect_weeks.specs.declared.weeks.Weeks.{Weeks}
use Rattle.sect_weeks.specs.Rows.{is_taken, credits_at, has_row}

-- some meeting of some section of some enrolment that the student holds takes this slot of the day
abbrev pub is_busy : World → StudentId → ℕ → ℕ → Bool
is_busy w student day slot = list_any (λ e. list_any (λ s. list_any (λ m. takes_pair m day slot) (meetings_of w s)) e.choice.sections) (held_by w student)

-- the calendar has the slots in which the student is in class, and no others
abbrev pub IsWeekOf : List ℕ → World → StudentId → Type 0
IsWeekOf words w student = (day slot : ℕ) → slot < 288 → is_set words day slot ≡ is_busy w student day slot

-- each student's calendar and credits are the world's, known or not, with at most 255 credits an enrolment; and each known one has a calendar
pub record ToldWeeks (t : Weeks) (w : World) : Type 0 where
  pub taken : (id : StudentId) (day slot : ℕ) → slot < 288 → is_taken t id.0 day slot ≡ is_busy w id day slot
  pub credits : (id : StudentId) → credits_at t id.0 ≡ credits_held w id
  pub few : (id : StudentId) → credits_at t id.0 ≤ 255 * length (held_by w id)
  pub students : (id : StudentId) → is_some (find_student w.students id) ≡ true → has_row t id.0 ≡ true
