-- nothing stands twice so far
use Rattle.std.proofs.Common.{◌≡◌, drop, take, []}
use Rattle.sect_people.specs.Fault.{courses_of_all, repeated_after}
use Rattle.sect_people.proofs.repeat.first_repeat.Given as goal

abbrev pub invariant-loop-place : goal.invariant-loop-place
invariant-loop-place l = repeated_after [] (courses_of_all l.asks) ≡ repeated_after (courses_of_all (take l.place l.asks)) (courses_of_all (drop l.place l.asks))
