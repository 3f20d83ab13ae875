-- The lines from a place on are written, and there is room for those before it.
use Rattle.std.proofs.Common.{◌≡◌, ◌*◌, ◌≤◌, ◌++◌, length, drop}
use Rattle.std.specs.Prelude.{flat_map}
use Rattle.sect_text.specs.Replies.{line_front}
use Rattle.sect_text.proofs.line_text.put_lines.Given as goal

abbrev pub invariant-loop-left : goal.invariant-loop-left
invariant-loop-left l = record {
  most : l.left ≤ length l.lines;
  room : 132 * l.left ≤ l.start;
  order : l.start ≤ l.end;
  long : length l.bytes ≡ length l.fn.bytes;
  written : drop l.start l.bytes ≡ flat_map line_front (drop l.left l.lines) ++ drop l.end l.fn.bytes;
}

abbrev pub decreases-loop-left : goal.decreases-loop-left
decreases-loop-left l = l.left
