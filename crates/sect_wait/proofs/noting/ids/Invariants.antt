-- the ids of the courses so far
use Rattle.std.proofs.Common.{◌≡◌, map, take}
use Rattle.sect_wait.proofs.noting.ids.Given as goal

abbrev pub invariant-loop-course : goal.invariant-loop-course
invariant-loop-course l = l.ids.items ≡ map (λ c. c.id) (take l.course-index l.courses)
