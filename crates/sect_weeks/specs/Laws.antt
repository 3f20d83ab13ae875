-- What the calendars are told of, and of what they need not be told.
use Rattle.std.specs.Prelude.{◌≡◌, ℕ, true, List}
use Rattle.sect_base.specs.declared.ids.StudentId.{StudentId}
use Rattle.sect_model.specs.declared.held.Enrolment.{Enrolment}
use Rattle.sect_model.specs.declared.change.Change.{Change}
use Rattle.sect_model.specs.World.{World, held_by}
use Rattle.sect_model.specs.Allowed.{credits_held}
use Rattle.sect_model.specs.Kept.{KeptWorld}
use Rattle.sect_model.specs.Fits.{Fits, changed}
use Rattle.sect_numbers.specs.OneMore.{with_roster, IsMore}
use Rattle.sect_numbers.specs.Quiet.{is_quiet}
use Rattle.sect_weeks.specs.declared.weeks.Weeks.{Weeks}
use Rattle.sect_weeks.specs.Busy.{is_busy, ToldWeeks}
use Rattle.sect_weeks.specs.Enrolled.{TakesMore, TakesAnew}
use Rattle.sect_weeks.specs.Quiet.{has_new}
use Rattle.sect_weeks.specs.Rows.{Keeps}

-- calendars that took the slots of one enrolment more are those of the world with it
abbrev pub EnrolledIsTold : Type 0
EnrolledIsTold =
    (t u : Weeks) (w : World) (more : List Enrolment) (e : Enrolment) → IsMore w.roster more e → ToldWeeks t w → TakesMore t u w.catalogue.rows e
    → ToldWeeks u (with_roster w more)

-- calendars of which the student's was made again from what is still held are those of the world without the enrolment
abbrev pub LeftIsTold : Type 0
LeftIsTold =
    (t u : Weeks) (w : World) (more : List Enrolment) (e : Enrolment) → IsMore w.roster more e → ToldWeeks t (with_roster w more)
    → TakesAnew t u w.catalogue.rows e.student.0 (held_by w e.student) → ToldWeeks u w

-- calendars of the same slots, with one for each who had one, are those of the same world
abbrev pub KeptIsTold : Type 0
KeptIsTold = (t u : Weeks) (w : World) → ToldWeeks t w → Keeps t u → ToldWeeks u w

-- a change that enrols nobody, and by which nobody leaves, leaves each student's week as it is
abbrev pub QuietKeepsWeeks : Type 0
QuietKeepsWeeks =
    (w : World) (c : Change) → KeptWorld w → Fits w c → is_quiet c ≡ true → (id : StudentId) (day slot : ℕ) → is_busy (changed w c) id day slot ≡ is_busy w id day slot

-- and the credits that each student holds
abbrev pub QuietKeepsCredits : Type 0
QuietKeepsCredits = (w : World) (c : Change) → KeptWorld w → Fits w c → is_quiet c ≡ true → (id : StudentId) → credits_held (changed w c) id ≡ credits_held w id

-- calendars with one for the student of such a change are those of the world after it
abbrev pub QuietIsTold : Type 0
QuietIsTold =
    (t u : Weeks) (w : World) (c : Change) → KeptWorld w → Fits w c → is_quiet c ≡ true → ToldWeeks t w → Keeps t u → has_new u c ≡ true → ToldWeeks u (changed w c)

-- and calendars of the world after it are those of the world before it
abbrev pub BackIsTold : Type 0
BackIsTold = (t : Weeks) (w : World) (c : Change) → KeptWorld w → Fits w c → is_quiet c ≡ true → ToldWeeks t (changed w c) → ToldWeeks t w
