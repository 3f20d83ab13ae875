-- What valid input is, for each thing that words ask for.
use Rattle.std.specs.Prelude.{◌≡◌, ◌⊎◌, ℕ, ◌+◌, ◌^◌, ◌≤◌, All, List, None, Some, Option, length, true, ⊤}
use Rattle.std.specs.List.{AllZip}
use Rattle.std.specs.Option.{IsSomeAnd, IfSome}
use Rattle.sect_command.specs.declared.command.Command.{Command}
use Rattle.sect_command.specs.declared.reply.Reply.{Reply}
use Rattle.sect_command.specs.declared.view.Table.{Table}
use Rattle.sect_csv.specs.Intake.{read_so_far}
use Rattle.sect_edge.specs.Causes.{Rose}
use Rattle.sect_history.specs.Step.{stepped}
use Rattle.sect_model.specs.World.{empty_state}
use Rattle.sect_once.specs.declared.entry.Note.{Note}
use Rattle.sect_once.specs.History.{IsLegal, NeverFull, history}
use Rattle.sect_once.specs.Opening.{IsFirstBad}
use Rattle.sect_wire.specs.Laws.{IsRow}
use Rattle.sect_script.specs.declared.status.Status.{Status}
use Rattle.sect_script.specs.declared.status.Status.TheVariants as statuses
use Rattle.sect_script.specs.Lines.{Line, bytes_of, lines_of, text_of}
use Rattle.sect_script.specs.Reading.{LINE_LIMIT}
use Rattle.sect_script.specs.Run.{LINES_LIMIT}
use Rattle.sect_asking.specs.Asks.{IsKnown}
use Rattle.sect_app.specs.Table.{TABLE_LIMIT}
use Rattle.sect_serve.specs.Serving.{SomeRose}
use Rattle.sect_usage.specs.declared.words.Words.{Words}
use Rattle.sect_usage.specs.declared.words.Words.TheVariants as asked

-- the rows of a keeper are all taken: none is the first that is bad
abbrev pub AllOpen : List (List ℕ) → Type 0
AllOpen rows = (number : ℕ) → IsFirstBad empty_state stepped IsRow (Some rows) number → ⊥

-- the rows of a legal log that was never full are all taken
abbrev pub RowsOfALogOpen : Type 0
RowsOfALogOpen = (log : List (Note Command Reply)) (rows : List (List ℕ)) → IsLegal stepped empty_state log → NeverFull IsRow log
    → AllZip IsRow (history log) rows → AllOpen rows

-- a line that isn't too long, and is passed over or is a request
abbrev pub IsValidLine : Line → Type 0
IsValidLine line = (length (bytes_of line) ≤ LINE_LIMIT) × IsKnown (text_of line)

-- a text of no more lines than an input may have, each of them valid
abbrev pub AreValidLines : List ℕ → Type 0
AreValidLines text = (length (lines_of text) ≤ LINES_LIMIT) × All IsValidLine (lines_of text)

-- a text of no more bytes than a table may have, which is a table to its end with no bad row, and whose commands all have a number of 64 bits
-- from the first on
pub record AreValidRows (table : Table) (term : Option ℕ) (first : ℕ) (text : List ℕ) : Type 0 where
  pub small : length text ≤ TABLE_LIMIT
  pub well : (read_so_far table term text true).0.fault ≡ None
  pub numbers : first + length (read_so_far table term text true).1 ≤ 2 ^ 64

-- a keeper with these rows and a source with this input are valid for the words: the keeper tells rows that are all taken, where it is opened,
-- and the source tells lines or a table, where it is read
abbrev pub IsValid : Words → Option (List (List ℕ)) → Option (List ℕ) → Type 0
IsValid asked.Run rows input = IsSomeAnd rows AllOpen × IsSomeAnd input AreValidLines
IsValid (asked.Serve port workers sessions) rows input = IsSomeAnd rows AllOpen
IsValid (asked.Make offerings) rows input = ⊤
IsValid asked.Audit rows input = IsSomeAnd rows AllOpen
IsValid (asked.Report query) rows input = IsSomeAnd rows AllOpen
IsValid (asked.Import table first term) rows input = IsSomeAnd rows AllOpen × IsSomeAnd input (AreValidRows table term first)
IsValid (asked.Export table) rows input = IsSomeAnd rows AllOpen
IsValid (asked.Plan student budget) rows input = IsSomeAnd rows AllOpen
IsValid asked.Survey rows input = IsSomeAnd rows AllOpen
IsValid (asked.Help topic) rows input = ⊤
IsValid asked.Version rows input = ⊤

-- all was done, or memory was wanted
abbrev pub IsDoneOrMemory : Status → Type 0
IsDoneOrMemory status = (status ≡ statuses.Done) ⊎ (status ≡ statuses.Memory)

module _ {S T L K : Type 0} (in_faults : S → ℕ) (out_faults : T → ℕ) (link_faults : L → ℕ) (keeper_faults : K → ℕ) where
  -- no count of faults rose: neither the source's nor the sink's, no link's, and not the keeper's, where it came back
  pub record NoneRose (source source' : S) (sink sink' : T) (links links' : List L) (keeper : K) (back : Option K) : Type 0 where
    pub of_source : Rose (in_faults source) (in_faults source') → ⊥
    pub of_sink : Rose (out_faults sink) (out_faults sink') → ⊥
    pub of_links : SomeRose link_faults links links' → ⊥
    pub of_keeper : IfSome back (λ b. Rose (keeper_faults keeper) (keeper_faults b) → ⊥)
