-- those of the levels so far
use Rattle.std.proofs.Common.{◌≡◌, filter, not, take}
use Rattle.sect_model.specs.Space.{has_place}
use Rattle.sect_wait.proofs.noting.full.Given as goal

abbrev pub invariant-loop-level : goal.invariant-loop-level
invariant-loop-level l = l.full.items ≡ filter (λ level. not (has_place l.world.world level)) (take l.level-index l.levels)
