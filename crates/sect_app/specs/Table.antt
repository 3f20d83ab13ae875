-- What a run over a table does.
use Rattle.std.specs.Prelude.{◌≡◌, ◌≤◌, ℕ, ◌+◌, ◌^◌, Bool, true, false, List, [], ◌∷◌, ◌++◌, length, Option, None, Some}
use Rattle.std.specs.Io.KnownBytes.{Consumes, IsAtEnd}
use Rattle.sect_command.specs.declared.view.Table.{Table}
use Rattle.sect_csv.specs.Intake.{read_so_far}
use Rattle.sect_tables.specs.Progress.{Progress}
use Rattle.sect_tables.specs.Rows.{Step}
use Rattle.sect_tables.specs.declared.given.Given.{Given}
use Rattle.sect_script.specs.declared.script.RunEnd.{RunEnd}
use Rattle.sect_script.specs.declared.script.RunEnd.TheVariants as ends
use Rattle.sect_script.specs.Run.{AnswersEach, Writes}
use Rattle.sect_app.specs.Numbers.{Numbered, numbered}

-- how many bytes a table may have
abbrev pub TABLE_LIMIT : ℕ
TABLE_LIMIT = 4294967296

-- they come first, in this order
abbrev pub IsFront : {X : Type 0} → List X → List X → Type 0
IsFront {X} xs all = (rest : List X) × (all ≡ xs ++ rest)

-- behind these commands no number is left for the one that is open at this row
abbrev pub RanOut : ℕ → List Given → Progress → ℕ → Type 0
RanOut first asked p row = (p.open_row ≡ Some row) × (first + length asked ≡ 2 ^ 64)

-- a number is left for the command that is open, where there is one
abbrev pub HasNumber : ℕ → List Given → Progress → Type 0
HasNumber first asked p = (row : ℕ) → RanOut first asked p row → ⊥

-- how a run ends: by the first number, what the bytes show, those bytes, the bytes taken behind them, whether they are all, and the
-- commands that were asked
pub data EndsTable (first : ℕ) (shown : Step) (read more : List ℕ) (ended : Bool) (asked : List Given) : RunEnd → Type 0 where
  -- the whole table was read
  AtEnd : ended ≡ true → shown.0.fault ≡ None → asked ≡ shown.1 → more ≡ [] → EndsTable first shown read more ended asked ends.Done
  -- this row is bad in this field
  AtBadRow : (row field : ℕ) → shown.0.fault ≡ Some (row, field) → asked ≡ shown.1 → HasNumber first asked shown.0 → more ≡ []
      → EndsTable first shown read more ended asked (ends.BadLine row field)
  -- the next command, which begins at this row, has no number
  WithoutNumber : (next : Given) (rest : List Given) → shown.1 ≡ asked ++ next ∷ rest → first + length asked ≡ 2 ^ 64 → more ≡ []
      → EndsTable first shown read more ended asked (ends.BadLine next.row 0)
  -- the command that is open at this row has no number
  OpenWithoutNumber : (row : ℕ) → RanOut first asked shown.0 row → asked ≡ shown.1 → more ≡ [] → EndsTable first shown read more ended asked (ends.BadLine row 0)
  -- the table goes on behind the bytes that it may have, at this row
  PastLimit : (row : ℕ) → row ≡ shown.0.rows + 1 → ended ≡ false → shown.0.fault ≡ None → asked ≡ shown.1 → HasNumber first asked shown.0 → length read ≡ TABLE_LIMIT
      → length more ≡ 1 → EndsTable first shown read more ended asked (ends.BadLine row 0)
  -- the source failed
  AtReadFault : ended ≡ false → shown.0.fault ≡ None → asked ≡ shown.1 → HasNumber first asked shown.0 → more ≡ [] → EndsTable first shown read more ended asked ends.ReadFault
  -- the sink failed
  AtWriteFault : more ≡ [] → EndsTable first shown read more ended asked ends.WriteFault
  -- memory was wanted
  AtMemory : EndsTable first shown read more ended asked ends.Memory

-- of what these bytes of a table show commands were asked by rising numbers, and their answers written
pub record AsksTable {H : Type 0} (answers : H → Numbered → List ℕ → H → Type 0) (table : Table) (term : Option ℕ) (first : ℕ) (taken taken' : Option (List ℕ)) (old new : H) (read more : List ℕ) (ended : Bool) (end : RunEnd) : Type 0 where
  pub asked : List Given
  pub shown : IsFront asked (read_so_far table term read ended).1
  pub numbers : first + length asked ≤ 2 ^ 64
  pub bytes : List ℕ
  pub answered : AnswersEach answers old (numbered first asked) bytes new
  pub written : Writes end taken taken' bytes
  pub how : EndsTable first (read_so_far table term read ended) read more ended asked end

-- a table was read from the source, and its commands were asked
pub record RanTable {H : Type 0} (answers : H → Numbered → List ℕ → H → Type 0) (table : Table) (term : Option ℕ) (first : ℕ) (left left' taken taken' : Option (List ℕ)) (old new : H) (end : RunEnd) : Type 0 where
  -- the bytes that count
  pub read : List ℕ
  -- the bytes taken behind them: one past the limit, any for want of memory, else none
  pub more : List ℕ
  pub consumed : Consumes left left' (read ++ more)
  pub small : length read ≤ TABLE_LIMIT
  -- whether they are all
  pub ended : Bool
  pub at_end : ended ≡ true → IsAtEnd left'
  pub asks : AsksTable answers table term first taken taken' old new read more ended end
