-- What a sheet of rows holds.
use Rattle.std.specs.Prelude.{◌≡◌, ℕ, false, List, [], Some, unwrap_or}
use Rattle.csv.specs.declared.writer.Writer.{Writer}
use Rattle.csv.specs.Writing.{default_writer, fields_written, has_written, text_written, writer_setup}
use Rattle.std.specs.declared.alloc.Global.{Global}
use Rattle.std.specs.declared.vec.Vec.{Vec}

-- the bytes written so far
abbrev pub sheet_text : Writer (Vec ℕ Global) → List ℕ
sheet_text writer = unwrap_or (text_written (λ v. Some v.items) writer) []

-- the writer stands between two rows
pub record IsSheet (writer : Writer (Vec ℕ Global)) : Type 0 where
  pub setup : writer_setup writer ≡ default_writer
  pub between : fields_written writer ≡ 0
  pub shown : has_written writer ≡ false
  pub told : text_written (λ v. Some v.items) writer ≡ Some (sheet_text writer)
