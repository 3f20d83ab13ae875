-- What was printed and what is left are the lines, and what stood before still does.
use Rattle.std.proofs.Common.{◌≡◌, ◌++◌, length, take}
use Rattle.std.specs.Prelude.{flat_map}
use Rattle.sect_words.specs.Parts.{behind}
use Rattle.sect_text.specs.Replies.{line_words}
use Rattle.sect_text.proofs.line_text.print_lines.Given as goal

abbrev pub invariant-loop-left : goal.invariant-loop-left
invariant-loop-left l = record {
  text : l.into.items ++ behind 32 (flat_map line_words l.left) ≡ l.fn.into.items ++ behind 32 (flat_map line_words l.lines);
  front : take (length l.fn.into.items) l.into.items ≡ l.fn.into.items;
}

abbrev pub decreases-loop-left : goal.decreases-loop-left
decreases-loop-left l = length l.left
