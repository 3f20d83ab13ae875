-- the leaves so far and those of the options left make up all
use Rattle.std.proofs.Common.{◌≡◌, ◌++◌, drop}
use Rattle.sect_base.specs.Tree.{trees_of}
use Rattle.sect_survey.specs.Leaves.{leaves_below}
use Rattle.sect_survey.proofs.leaves.+add_leaves.Given as goal

abbrev pub invariant-loop-option : goal.invariant-loop-option
invariant-loop-option l = l.leaves.items ++ leaves_below (trees_of (drop l.option-index l.option-items)) ≡ l.fn.leaves.items ++ leaves_below (trees_of l.option-items)

abbrev pub decreases-add_leaves : goal.decreases-add_leaves
decreases-add_leaves l = goal.size-add_leaves l
