use Rattle.std.proofs.Common.{◌≡◌, ◌≤◌, length, take}
use Rattle.sect_csv.specs.Rows.{through_last_feed}
use Rattle.sect_csv.proofs.lines.lines_len.Given as goal

abbrev pub invariant-loop-end : goal.invariant-loop-end
invariant-loop-end l = (l.end ≤ length l.bytes) × (through_last_feed l.bytes ≡ through_last_feed (take l.end l.bytes))

abbrev pub decreases-loop-end : goal.decreases-loop-end
decreases-loop-end l = l.end
