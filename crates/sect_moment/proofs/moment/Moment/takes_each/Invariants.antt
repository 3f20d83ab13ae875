-- the reservations behind take what is left
use Rattle.std.proofs.Common.{◌≡◌, drop}
use Rattle.sect_moment.specs.Reserved.{takes_all}
use Rattle.sect_moment.proofs.moment.Moment.takes_each.Given as goal

abbrev pub invariant-loop-r : goal.invariant-loop-r
invariant-loop-r l = takes_all l.self.at l.level l.places l.rows ≡ takes_all l.self.at l.level l.left (drop l.r-index l.rows)
