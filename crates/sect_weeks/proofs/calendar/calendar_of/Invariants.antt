-- the slots of the enrolments so far are taken
use Rattle.std.proofs.Common.{◌≡◌, ◌<◌, ℕ, take}
use Rattle.sect_base.specs.Calendar.{is_set}
use Rattle.sect_weeks.specs.Taken.{enrolments_take}
use Rattle.sect_weeks.proofs.calendar.calendar_of.Given as goal

abbrev pub invariant-loop-enrolment : goal.invariant-loop-enrolment
invariant-loop-enrolment l = (day slot : ℕ) → slot < 288 → is_set l.calendar day slot ≡ enrolments_take l.catalogue.rows (take l.enrolment-index l.held) day slot
