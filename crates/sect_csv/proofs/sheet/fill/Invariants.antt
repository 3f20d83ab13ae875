-- The fields put so far are those of the row.
use Rattle.std.proofs.Common.{◌≡◌, [], map, take}
use Rattle.csv.specs.Records.{fields_of, partial_of}
use Rattle.sect_csv.specs.Fields.{field_text}
use Rattle.sect_csv.proofs.sheet.fill.Given as goal

abbrev pub invariant-loop-field : goal.invariant-loop-field
invariant-loop-field l = record {
  filled : fields_of l.row ≡ map field_text (take l.field-index l.fields);
  clean : partial_of l.row ≡ [];
}
