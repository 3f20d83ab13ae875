-- What is printed and what is left make up the spaces, and what stood before still does.
use Rattle.std.proofs.Common.{◌≡◌, ◌++◌, length, take}
use Rattle.sect_explain.specs.Explained.{indent}
use Rattle.sect_explain.proofs.line.print_indent.Given as goal

abbrev pub invariant-loop-left : goal.invariant-loop-left
invariant-loop-left l = record {
  whole : l.into.items ++ indent l.left ≡ l.fn.into.items ++ indent l.depth;
  front : take (length l.fn.into.items) l.into.items ≡ l.fn.into.items;
}

abbrev pub decreases-loop-left : goal.decreases-loop-left
decreases-loop-left l = l.left
