-- the ids so far rise, and the floors are those behind them
use Rattle.std.proofs.Common.{◌≡◌, drop}
use Rattle.std.specs.Prelude.{map}
use Rattle.sect_catalog.specs.Apart.{past_all}
use Rattle.sect_catalog.proofs.apart.past_courses.Given as goal

abbrev pub invariant-loop-course : goal.invariant-loop-course
invariant-loop-course l = past_all l.fn.floors (map (λ c. (1, c.id.0)) l.courses) ≡ past_all l.floors (map (λ c. (1, c.id.0)) (drop l.course-index l.courses))
