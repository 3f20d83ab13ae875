-- The rows written and those left make up the text.
use Rattle.std.proofs.Common.{◌≡◌, ◌++◌, drop}
use Rattle.std.specs.List.{flat_map}
use Rattle.sect_csv.specs.Tables.{asks_text}
use Rattle.sect_csv.proofs.people.write_requests.Given as goal

abbrev pub invariant-loop-row : goal.invariant-loop-row
invariant-loop-row l = l.sheet ++ flat_map (λ v. asks_text v.student 1 v.asks) (drop l.row-index l.rows) ≡ l.fn.sheet ++ flat_map (λ v. asks_text v.student 1 v.asks) l.rows
