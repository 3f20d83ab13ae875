-- How far a run over a table has come.
use Rattle.std.specs.Prelude.{◌≡◌, ◌≤◌, ℕ, ◌+◌, ◌^◌, Bool, true, false, List, [], ◌++◌, length, Option, None, Some, Result, Ok, Err, option_map}
use Rattle.std.specs.Io.KnownBytes.{Appends, Consumes, IsAtEnd}
use Rattle.sect_command.specs.declared.view.Table.{Table}
use Rattle.sect_base.specs.declared.duplicate.Memory.{Memory as NoMemory}
use Rattle.sect_csv.specs.Intake.{Intake, answer_to, read_so_far}
use Rattle.sect_tables.specs.declared.given.CsvFault.{CsvFault}
use Rattle.sect_tables.specs.declared.given.CsvFault.TheVariants.{BadRow, Memory}
use Rattle.sect_tables.specs.declared.given.Given.{Given}
use Rattle.sect_script.specs.declared.script.RunEnd.{RunEnd}
use Rattle.sect_script.specs.Run.{AnswersEach}
use Rattle.sect_app.specs.Numbers.{Numbered, number_at, numbered}
use Rattle.sect_app.specs.Table.{AsksTable, HasNumber, TABLE_LIMIT}

-- an import that was fed these bytes and met no fault
abbrev pub going : Table → Option ℕ → List ℕ → Intake
going table term read = record { table = table; term = term; bytes = read; ended = false; fault = None }

-- these commands were asked by the numbers from the first on, their answers were written, and this number is the next
pub record AskedSoFar {H : Type 0} (answers : H → Numbered → List ℕ → H → Type 0) (first : ℕ) (taken taken' : Option (List ℕ)) (old new : H) (asked : List Given) (next : Option ℕ) : Type 0 where
  pub bytes : List ℕ
  pub answered : AnswersEach answers old (numbered first asked) bytes new
  pub written : Appends taken taken' bytes
  pub next_is : next ≡ number_at (first + length asked)
  pub numbers : first + length asked ≤ 2 ^ 64

-- each command that these bytes show was asked, no row is bad, and a number is left for the command that is open
pub record Through {H : Type 0} (answers : H → Numbered → List ℕ → H → Type 0) (table : Table) (term : Option ℕ) (first : ℕ) (taken taken' : Option (List ℕ)) (old new : H) (next : Option ℕ) (read : List ℕ) (ended : Bool) : Type 0 where
  pub well : (read_so_far table term read ended).0.fault ≡ None
  pub so_far : AskedSoFar answers first taken taken' old new (read_so_far table term read ended).1 next
  pub has_number : HasNumber first (read_so_far table term read ended).1 (read_so_far table term read ended).0

-- the bytes that were read were fed, as many as the total, and the commands that they show asked
pub record Underway {H : Type 0} (answers : H → Numbered → List ℕ → H → Type 0) (table : Table) (term : Option ℕ) (first : ℕ) (left left' taken taken' : Option (List ℕ)) (old new : H) (import : Intake) (next : Option ℕ) (total : ℕ) : Type 0 where
  pub read : List ℕ
  pub consumed : Consumes left left' read
  pub fed : import ≡ going table term read
  pub through : Through answers table term first taken taken' old new next read false
  pub count : total ≡ length read
  pub small : length read ≤ TABLE_LIMIT

-- the bytes show these commands behind those that were asked, this row at which one is open, and this fault
pub record Shows {H : Type 0} (answers : H → Numbered → List ℕ → H → Type 0) (table : Table) (term : Option ℕ) (first : ℕ) (taken taken' : Option (List ℕ)) (old new : H) (next : Option ℕ) (read : List ℕ) (ended : Bool)
    (given : List Given) (open_row : Option ℕ) (fault : Option (ℕ × ℕ)) : Type 0 where
  pub before : List Given
  pub so_far : AskedSoFar answers first taken taken' old new before next
  pub behind : (read_so_far table term read ended).1 ≡ before ++ given
  pub open_is : open_row ≡ (read_so_far table term read ended).0.open_row
  pub fault_is : fault ≡ (read_so_far table term read ended).0.fault

-- what was found goes on, or it ended
abbrev pub GoesOn : Type 0 → (RunEnd → Type 0) → Option RunEnd → Type 0
GoesOn Goes Ended None = Goes
GoesOn Goes Ended (Some end) = Ended end

module _ {H : Type 0} (answers : H → Numbered → List ℕ → H → Type 0) (table : Table) (term : Option ℕ) (first : ℕ) (taken taken' : Option (List ℕ)) (old new : H) where
  -- the commands behind those that were asked before were asked, or the run ended among them
  abbrev pub AsksShown : Option ℕ → List ℕ → Bool → Option RunEnd → Type 0
  AsksShown next read ended result =
      GoesOn (Through answers table term first taken taken' old new next read ended) (λ end. AsksTable answers table term first taken taken' old new read [] ended end) result

  -- a piece was fed and the commands that it shows asked, or the run ended among them
  abbrev pub TakesPiece : Intake → Option ℕ → List ℕ → List ℕ → Option RunEnd → Type 0
  TakesPiece import next read piece result =
      GoesOn ((import ≡ going table term (read ++ piece)) × Through answers table term first taken taken' old new next (read ++ piece) false)
      (λ end. (front : List ℕ) × (more : List ℕ) × (front ++ more ≡ read ++ piece) × AsksTable answers table term first taken taken' old new front more false end) result

  -- the table ended
  abbrev pub TakesEnd : List ℕ → RunEnd → Type 0
  TakesEnd read end = (ended : Bool) × AsksTable answers table term first taken taken' old new read [] ended end

-- the row of an open command where no number is left
abbrev pub open_without : Option ℕ → Option ℕ → Option ℕ
open_without None open_row = open_row
open_without (Some number) open_row = None

-- the answer of an import with this bad row, or with none
abbrev pub answer_of : Option (ℕ × ℕ) → Result Unit CsvFault
answer_of bad = answer_to (option_map (λ it. BadRow it.0 it.1) bad)

-- an import answered this bad row, or none, or that memory was wanted
abbrev pub TellsFault : Result Unit CsvFault → Result (Option (ℕ × ℕ)) NoMemory → Type 0
TellsFault fed (Ok bad) = fed ≡ answer_of bad
TellsFault fed (Err none) = fed ≡ Err Memory

-- another byte was taken, or none is left
abbrev pub LooksPast : Bool → Option (List ℕ) → Option (List ℕ) → Type 0
LooksPast true now later = (byte : List ℕ) × Consumes now later byte × (length byte ≡ 1)
LooksPast false now later = Consumes now later [] × IsAtEnd later
