-- the options agree so far, and are of one number
use Rattle.std.proofs.Common.{◌≡◌, take, length}
use Rattle.sect_base.proofs.block.Block.+same_tree.Given as goal

abbrev pub invariant-loop-at : goal.invariant-loop-at
invariant-loop-at l = (length l.options.items ≡ length l.others.items) × (take l.at l.options.items ≡ take l.at l.others.items)
