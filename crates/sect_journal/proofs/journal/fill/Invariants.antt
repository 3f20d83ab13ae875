-- What was written and the text of the rows that are left are all of it.
use Rattle.std.proofs.Common.{◌≡◌, ◌++◌, length, map}
use Rattle.sect_journal.specs.Text.{records_of}
use Rattle.sect_journal.proofs.journal.fill.Given as goal

abbrev pub invariant-loop-rest : goal.invariant-loop-rest
invariant-loop-rest l = l.into.items ++ records_of (map (λ row. row.now) l.rest) ≡ records_of (map (λ row. row.now) l.fn.rows)

abbrev pub decreases-loop-rest : goal.decreases-loop-rest
decreases-loop-rest l = length l.rest
