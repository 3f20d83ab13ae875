-- What was printed so far, and what stood before still does.
use Rattle.std.proofs.Common.{◌≡◌, ◌++◌, length, take, map}
use Rattle.sect_words.specs.Parts.{behind}
use Rattle.sect_words.proofs.spelled_lists.print_behind.Given as goal

abbrev pub invariant-loop-item : goal.invariant-loop-item
invariant-loop-item g l = record {
  text : l.into.items ≡ l.fn.into.items ++ behind l.mark (map g.T.Spelled.spelling (take l.item-index l.items));
  front : take (length l.fn.into.items) l.into.items ≡ l.fn.into.items;
}
