-- The rows written and those left make up the text.
use Rattle.std.proofs.Common.{◌≡◌, ◌+◌, ◌++◌, drop}
use Rattle.sect_csv.specs.Tables.{asks_text}
use Rattle.sect_csv.proofs.people.write_asks.Given as goal

abbrev pub invariant-loop-at : goal.invariant-loop-at
invariant-loop-at l = l.sheet ++ asks_text l.student (l.at + 1) (drop l.at l.asks) ≡ l.fn.sheet ++ asks_text l.student 1 l.asks
