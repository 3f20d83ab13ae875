-- The ids from a place on are written, and there is room for those before it.
use Rattle.std.proofs.Common.{◌≡◌, ◌+◌, ◌-◌, ◌*◌, ◌≤◌, ◌++◌, decimal, length, drop, map}
use Rattle.sect_words.specs.Parts.{behind}
use Rattle.sect_words.proofs.digits.put_each.Given as goal

abbrev pub invariant-loop-left : goal.invariant-loop-left
invariant-loop-left g l = record {
  most : l.left ≤ length l.ids;
  room : 11 * l.left ≤ l.start;
  few : l.end ≤ l.start + 11 * (length l.ids - l.left);
  order : l.start ≤ l.end;
  long : length l.bytes ≡ length l.fn.bytes;
  written : drop l.start l.bytes ≡ behind l.mark (map (λ id. decimal (g.T.Numbered.number_of id)) (drop l.left l.ids)) ++ drop l.end l.fn.bytes;
}

abbrev pub decreases-loop-left : goal.decreases-loop-left
decreases-loop-left g l = l.left
