-- those of the levels so far
use Rattle.std.proofs.Common.{◌≡◌, filter, not, take}
use Rattle.sect_model.specs.Space.{has_unreserved}
use Rattle.sect_wait.proofs.noting.reserved.Given as goal

abbrev pub invariant-loop-level : goal.invariant-loop-level
invariant-loop-level l = l.reserved.items ≡ filter (λ level. not (has_unreserved l.world.world level)) (take l.level-index l.levels)
