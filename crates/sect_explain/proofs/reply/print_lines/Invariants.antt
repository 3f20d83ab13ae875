-- The lines printed and those left make up the text, and what stood before still does.
use Rattle.std.proofs.Common.{◌≡◌, ◌++◌, length, take, drop, flat_map}
use Rattle.sect_explain.specs.Replied.{explain_lines}
use Rattle.sect_explain.proofs.reply.print_lines.Given as goal

abbrev pub invariant-loop-line : goal.invariant-loop-line
invariant-loop-line l = record {
  whole : l.into.items ++ explain_lines l.world.world (drop l.line-index l.lines) ≡ l.fn.into.items ++ explain_lines l.world.world l.lines;
  front : take (length l.fn.into.items) l.into.items ≡ l.fn.into.items;
}
