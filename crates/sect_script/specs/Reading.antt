-- How a line comes out of the bytes that stand ready and those that the source gives.
use Rattle.std.specs.Prelude.{◌≡◌, ◌<◌, ◌≤◌, ℕ, Bool, true, false, List, [], ◌∷◌, ◌++◌, length, ⊤, Result, Ok, Err}
use Rattle.sect_script.specs.declared.reader.LineEnd.{LineEnd}
use Rattle.sect_script.specs.declared.reader.LineEnd.TheVariants.{LineFeed, EndOfInput}
use Rattle.sect_script.specs.declared.reader.LineError.{LineError}
use Rattle.sect_script.specs.declared.reader.LineError.TheVariants as errors
use Rattle.sect_script.specs.Lines.{IsOneLine, without_return}

-- how many bytes a line may have before its line feed
abbrev pub LINE_LIMIT : ℕ
LINE_LIMIT = 65536

-- the bytes before the first line feed go behind the line, or all of them where there is none
abbrev pub Moves : Bool → List ℕ → List ℕ → List ℕ → List ℕ → Type 0
Moves true old new line longer = (moved : List ℕ) × IsOneLine moved × (old ≡ moved ++ 10 ∷ new) × (longer ≡ line ++ moved)
Moves false old new line longer = IsOneLine old × (new ≡ []) × (longer ≡ line ++ old)

-- what came of reading a line from the bytes, and which of them are left
abbrev pub ReadsLine : Result LineEnd LineError → List ℕ → List ℕ → List ℕ → Type 0
ReadsLine (Ok LineFeed) bytes left line = (whole : List ℕ) × IsOneLine whole × (length whole ≤ LINE_LIMIT)
    × (bytes ≡ whole ++ 10 ∷ left) × (line ≡ without_return whole)
ReadsLine (Ok EndOfInput) bytes left line = IsOneLine line × (length line ≤ LINE_LIMIT) × (bytes ≡ line) × (left ≡ [])
ReadsLine (Err errors.TooLong) bytes left line = (front : List ℕ) × (more : List ℕ) × IsOneLine front × (LINE_LIMIT < length front)
    × (bytes ≡ front ++ more)
ReadsLine (Err errors.Failed) bytes left line = IsOneLine bytes
ReadsLine (Err errors.Unwritten) bytes left line = ⊤
ReadsLine (Err errors.Memory) bytes left line = ⊤
