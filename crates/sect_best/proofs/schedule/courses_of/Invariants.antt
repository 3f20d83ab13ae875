-- The courses so far and those left make up all.
use Rattle.std.proofs.Common.{◌≡◌, ◌++◌, map, drop}
use Rattle.sect_best.proofs.schedule.courses_of.Given as goal

abbrev pub invariant-loop-enrolment : goal.invariant-loop-enrolment
invariant-loop-enrolment l =
    l.courses.items ++ map (λ e. e.choice.course) (drop l.enrolment-index l.enrolments) ≡ map (λ e. e.choice.course) l.enrolments
