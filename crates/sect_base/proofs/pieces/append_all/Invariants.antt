-- What was appended and the pieces that are left are all of it.
use Rattle.std.proofs.Common.{◌≡◌, ◌≤◌, ◌++◌, length, map, take, vec_capacity}
use Rattle.std.specs.List.{concat}
use Rattle.sect_base.proofs.pieces.append_all.Given as goal

abbrev pub invariant-loop-rest : goal.invariant-loop-rest
invariant-loop-rest l =
    (l.into.items ++ concat (map (λ p. p.now) l.rest) ≡ l.fn.into.items ++ concat (map (λ p. p.now) l.fn.pieces))
    × (take l.start l.into.items ≡ l.fn.into.items)
    × (vec_capacity l.fn.into ≤ vec_capacity l.into) × (l.start ≡ length l.fn.into.items)

abbrev pub decreases-loop-rest : goal.decreases-loop-rest
decreases-loop-rest l = length l.rest
