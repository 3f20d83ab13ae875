-- the least so far
use Rattle.std.proofs.Common.{◌≡◌, take}
use Rattle.std.specs.Prelude.{map, filter}
use Rattle.sect_model.specs.Allowed.{must_use}
use Rattle.sect_model.specs.Rules.{least}
use Rattle.sect_moment.proofs.moment.Moment.least_must.Given as goal

abbrev pub invariant-loop-r : goal.invariant-loop-r
invariant-loop-r l = l.least ≡ least (map (λ r. r.id.0) (filter (must_use l.self.at l.self.student l.course) (take l.r-index l.rows)))
