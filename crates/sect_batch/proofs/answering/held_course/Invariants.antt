-- the first that is held is the first of those that are left
use Rattle.std.proofs.Common.{◌≡◌, drop, find}
use Rattle.sect_batch.specs.Lines.{has_course}
use Rattle.sect_batch.proofs.answering.held_course.Given as goal

abbrev pub invariant-loop-course : goal.invariant-loop-course
invariant-loop-course l = find (has_course l.enrolments) l.courses ≡ find (has_course l.enrolments) (drop l.course-index l.courses)
