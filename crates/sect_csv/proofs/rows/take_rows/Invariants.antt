-- The rows read so far and those left give what all give, and what stood before still stands in front.
use Rattle.std.proofs.Common.{◌≡◌, drop, length, map, take}
use Rattle.csv.specs.Records.{fields_of}
use Rattle.sect_tables.specs.Rows.{behind, rows_read}
use Rattle.sect_csv.proofs.rows.take_rows.Given as goal

abbrev pub invariant-loop-row : goal.invariant-loop-row
invariant-loop-row l = record {
  rest : behind l.out.items (rows_read l.reading (map fields_of (drop l.row-index l.rows))) ≡ behind l.fn.out.items (rows_read l.fn.reading (map fields_of l.rows));
  front : take (length l.fn.out.items) l.out.items ≡ l.fn.out.items;
}
