-- What is printed and what is left make up the text, and what stood before still does.
use Rattle.std.proofs.Common.{◌≡◌, ◌++◌, ◌∷◌, length, take, drop}
use Rattle.sect_base.specs.Tree.{trees_of}
use Rattle.sect_command.specs.TreeText.{inside_text}
use Rattle.sect_command.proofs.Printing.{left_text}
use Rattle.sect_command.proofs.tree_text.+print_tree.Given as goal

abbrev pub decreases-print_tree : goal.decreases-print_tree
decreases-print_tree l = goal.size-print_tree l

abbrev pub invariant-loop-option : goal.invariant-loop-option
invariant-loop-option l = record {
  whole : l.into.items ++ left_text l.first (trees_of (drop l.option-index l.option-items)) ≡ l.fn.into.items ++ (91 ∷ inside_text (trees_of l.option-items));
  front : take (length l.fn.into.items) l.into.items ≡ l.fn.into.items;
}
