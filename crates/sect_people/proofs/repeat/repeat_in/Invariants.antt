-- nothing stands twice so far
use Rattle.std.proofs.Common.{◌≡◌, drop, take, ◌++◌}
use Rattle.sect_people.specs.Fault.{courses_of_all, repeated_after}
use Rattle.sect_people.proofs.repeat.repeat_in.Given as goal

abbrev pub invariant-loop-place : goal.invariant-loop-place
invariant-loop-place l = repeated_after (courses_of_all l.earlier) l.courses ≡ repeated_after (take l.place l.courses ++ courses_of_all l.earlier) (drop l.place l.courses)
