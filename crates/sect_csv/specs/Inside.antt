-- The fields of an import, and what is true of them.
use Rattle.std.specs.Prelude.{◌≡◌, ◌-◌, false, None, length, take}
use Rattle.sect_csv.specs.Intake.{Intake, reading_of}
use Rattle.sect_csv.specs.declared.import.Import.TheInside.{Inside}

-- of the bytes that the records took, those of a piece that was not read do not count
abbrev pub intake_of : Inside → Intake
intake_of s = record {
  table = s.table;
  term = s.term;
  bytes = take (length s.records - s.unread) s.records;
  ended = s.ended;
  fault = s.fault;
}

-- before the end and a fault every piece is read, and the reading is the one of the bytes
pub record IsImport (s : Inside) : Type 0 where
  pub whole : s.fault ≡ None → s.unread ≡ 0
  pub reads : s.ended ≡ false → s.fault ≡ None → s.reading ≡ reading_of (intake_of s)
  pub counts : s.rows ≡ (reading_of (intake_of s)).rows
  pub opened : s.open_row ≡ (reading_of (intake_of s)).open_row
