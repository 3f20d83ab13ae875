-- The rows written and those left make up the text.
use Rattle.std.proofs.Common.{◌≡◌, ◌++◌, drop}
use Rattle.std.specs.List.{flat_map}
use Rattle.sect_csv.specs.Tables.{offering_text}
use Rattle.sect_csv.proofs.catalog.write_offerings.Given as goal

abbrev pub invariant-loop-row : goal.invariant-loop-row
invariant-loop-row l = l.sheet ++ flat_map (offering_text) (drop l.row-index l.rows) ≡ l.fn.sheet ++ flat_map (offering_text) l.rows
