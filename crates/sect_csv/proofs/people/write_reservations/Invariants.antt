-- The rows written and those left make up the text.
use Rattle.std.proofs.Common.{◌≡◌, ◌++◌, drop}
use Rattle.std.specs.List.{flat_map}
use Rattle.sect_csv.specs.Tables.{reservation_fields, written}
use Rattle.sect_csv.proofs.people.write_reservations.Given as goal

abbrev pub invariant-loop-row : goal.invariant-loop-row
invariant-loop-row l = l.sheet ++ flat_map (λ r. written (reservation_fields r)) (drop l.row-index l.rows) ≡ l.fn.sheet ++ flat_map (λ r. written (reservation_fields r)) l.rows
