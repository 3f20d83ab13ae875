-- the copies are those of the options so far
use Rattle.std.proofs.Common.{◌≡◌, take}
use Rattle.sect_base.proofs.block.Block.+copy_tree.Given as goal

abbrev pub invariant-loop-option : goal.invariant-loop-option
invariant-loop-option l = l.copies.items ≡ take l.option-index l.option-items
