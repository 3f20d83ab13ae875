-- The comments of the placements before the index.
use Rattle.std.proofs.Common.{◌≡◌, ◌++◌, flat_map, take}
use Rattle.sect_clerk.specs.Log.{placed_comment}
use Rattle.sect_clerk.proofs.lines.print_all_placed.Given as goal

abbrev pub invariant-loop-one : goal.invariant-loop-one
invariant-loop-one l = l.into.items ≡ l.initial.into.items ++ flat_map placed_comment (take l.one-index l.placed)
