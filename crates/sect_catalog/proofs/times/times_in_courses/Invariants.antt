-- the count of the ids so far
use Rattle.std.proofs.Common.{◌≡◌, take}
use Rattle.std.specs.Prelude.{map}
use Rattle.sect_catalog.specs.Search.{times_in}
use Rattle.sect_catalog.proofs.times.times_in_courses.Given as goal

abbrev pub invariant-loop-course : goal.invariant-loop-course
invariant-loop-course l = l.times ≡ times_in (map (λ c. (1, c.id.0)) (take l.course-index l.courses)) l.id
