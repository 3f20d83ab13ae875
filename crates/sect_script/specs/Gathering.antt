-- Answers that were gathered and aren't written yet.
use Rattle.std.specs.Prelude.{◌≡◌, ℕ, List, [], ◌++◌, take, Option, Result, Ok, Err}
use Rattle.std.specs.Io.KnownBytes.{Appends}
use Rattle.sect_script.specs.declared.reader.LineEnd.{LineEnd}
use Rattle.sect_script.specs.declared.reader.LineEnd.TheVariants.{LineFeed, EndOfInput}
use Rattle.sect_script.specs.declared.reader.LineError.{LineError}
use Rattle.sect_script.specs.declared.reader.LineError.TheVariants as errors

-- how many bytes are gathered at most
abbrev pub GATHER_LIMIT : ℕ
GATHER_LIMIT = 65536

-- these bytes were written but for those that are gathered, which come last
pub record WritesBut (old new : Option (List ℕ)) (bytes gathered : List ℕ) : Type 0 where
  pub front : List ℕ
  pub split : bytes ≡ front ++ gathered
  pub written : Appends old new front

-- a front of these bytes was written
abbrev pub WritesFront : Option (List ℕ) → Option (List ℕ) → List ℕ → Type 0
WritesFront old new bytes = (n : ℕ) × Appends old new (take n bytes)

-- what was gathered is written before a read, or a front of it where the sink fails
abbrev pub WritesBefore : Result LineEnd LineError → Option (List ℕ) → Option (List ℕ) → List ℕ → List ℕ → Type 0
WritesBefore (Ok LineFeed) old new gathered left = WritesBut old new gathered left
WritesBefore (Ok EndOfInput) old new gathered left = WritesBut old new gathered left
WritesBefore (Err errors.TooLong) old new gathered left = WritesBut old new gathered left
WritesBefore (Err errors.Failed) old new gathered left = WritesBut old new gathered left
WritesBefore (Err errors.Unwritten) old new gathered left = WritesFront old new gathered × (left ≡ [])
WritesBefore (Err errors.Memory) old new gathered left = WritesBut old new gathered left
