-- What was printed so far, and what stood before still does.
use Rattle.std.proofs.Common.{◌≡◌, ◌++◌, length, take}
use Rattle.std.specs.Prelude.{flat_map}
use Rattle.sect_words.specs.Parts.{behind}
use Rattle.sect_text.proofs.phrase.print_each.Given as goal

abbrev pub invariant-loop-value : goal.invariant-loop-value
invariant-loop-value g l = record {
  text : l.into.items ≡ l.fn.into.items ++ behind 32 (flat_map g.T.Phrase.words (take l.value-index l.values));
  front : take (length l.fn.into.items) l.into.items ≡ l.fn.into.items;
}
