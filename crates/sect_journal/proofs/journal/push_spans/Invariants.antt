-- What was noted and the spans of the rows that are left are all of them.
use Rattle.std.proofs.Common.{◌≡◌, ◌≤◌, ◌-◌, ◌++◌, length, map, vec_capacity}
use Rattle.sect_journal.specs.Standing.{spans_of, gate_behind}
use Rattle.sect_journal.proofs.journal.push_spans.Given as goal

abbrev pub invariant-loop-rest : goal.invariant-loop-rest
invariant-loop-rest l = record {
  room : length l.rest ≤ vec_capacity l.spans - length l.spans.items;
  noted : l.spans.items ++ spans_of l.gate (map (λ row. row.now) l.rest) ≡ l.fn.spans.items ++ spans_of l.fn.gate (map (λ row. row.now) l.fn.rows);
  behind : gate_behind l.gate (map (λ row. row.now) l.rest) ≡ gate_behind l.fn.gate (map (λ row. row.now) l.fn.rows);
}

abbrev pub decreases-loop-rest : goal.decreases-loop-rest
decreases-loop-rest l = length l.rest
