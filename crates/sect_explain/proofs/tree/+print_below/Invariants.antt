-- What is printed and what is left make up the text, and what stood before still does.
use Rattle.std.proofs.Common.{◌≡◌, ◌++◌, length, take}
use Rattle.sect_base.specs.Tree.{trees_of}
use Rattle.sect_model.specs.Path.{options_at}
use Rattle.sect_explain.specs.Explained.{explain_each}
use Rattle.sect_explain.proofs.ExplainLemmas.{from}
use Rattle.sect_explain.proofs.tree.+print_below.Given as goal

abbrev pub decreases-print_below : goal.decreases-print_below
decreases-print_below l = goal.size-print_below l

abbrev pub invariant-loop-tree : goal.invariant-loop-tree
invariant-loop-tree l = record {
  place : l.at ≡ l.tree-index;
  whole : l.into.items ++ from l.world.world l.mv l.path l.depth (options_at l.world.world l.mv l.path) l.tree-items l.at
      ≡ l.fn.into.items ++ explain_each l.world.world l.mv l.path l.depth (options_at l.world.world l.mv l.path) (trees_of l.tree-items);
  front : take (length l.fn.into.items) l.into.items ≡ l.fn.into.items;
}
