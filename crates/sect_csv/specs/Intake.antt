-- What is known of an import: what it has been fed, and what that gives.
use Rattle.std.specs.Prelude.{◌≡◌, ℕ, Bool, true, false, ◌||◌, List, [], ◌++◌, Option, None, Some, Result, Ok, Err, if◌then◌else◌, is_some, option_map}
use Rattle.sect_command.specs.declared.view.Table.{Table}
use Rattle.sect_csv.specs.Rows.{all_rows, shown_rows}
use Rattle.sect_tables.specs.Progress.{Progress, opening}
use Rattle.sect_tables.specs.Rows.{Step, at_end, behind, rows_read}
use Rattle.sect_tables.specs.declared.given.CsvFault.{CsvFault}
use Rattle.sect_tables.specs.declared.given.CsvFault.TheVariants.{BadRow, Memory}
use Rattle.sect_tables.specs.declared.given.Given.{Given}

-- a table and the term of its meetings, the bytes fed so far, whether they are all, and the fault at which it stopped
pub record Intake : Type 0 where
  pub table : Table
  pub term : Option ℕ
  pub bytes : List ℕ
  pub ended : Bool
  pub fault : Option CsvFault

-- an import that has been fed nothing
abbrev pub beginning : Table → Option ℕ → Intake
beginning table term = record { table = table; term = term; bytes = []; ended = false; fault = None }

-- a table with its end behind it
abbrev pub with_end : Step → Step
with_end step = behind step.1 (at_end step.0)

-- the rows that the bytes show, or all rows and the end behind them: what they make of a table, and what they give
unfoldable pub read_so_far : Table → Option ℕ → List ℕ → Bool → Step
read_so_far table term bytes false = rows_read (opening table term) (shown_rows bytes)
read_so_far table term bytes true = with_end (rows_read (opening table term) (all_rows bytes))

-- the reading of an import, beside the commands that it has given
abbrev pub step_of : Intake → Step
step_of i = read_so_far i.table i.term i.bytes i.ended

-- the reading of an import
abbrev pub reading_of : Intake → Progress
reading_of i = (step_of i).0

-- the commands that it has given
abbrev pub commands_of : Intake → List Given
commands_of i = (step_of i).1

-- the fault of a reading: its first bad row
abbrev pub fault_of : Progress → Option CsvFault
fault_of p = option_map (λ bad. BadRow bad.0 bad.1) p.fault

-- the import stops where a row is bad
abbrev pub settled : Intake → Intake
settled i = record i { fault = fault_of (reading_of i) }

-- nothing is read any more: the bytes are all, or there is a fault
abbrev pub is_over : Intake → Bool
is_over i = i.ended || is_some i.fault

-- the import with another piece, which changes none that is over
abbrev pub fed : Intake → List ℕ → Intake
fed i piece = if is_over i then i else settled (record i { bytes = i.bytes ++ piece })

-- the import with the end of its bytes
abbrev pub finished : Intake → Intake
finished i = if is_over i then i else settled (record i { ended = true })

-- the import where memory is wanting
abbrev pub starved : Intake → Intake
starved i = if is_over i then i else record i { fault = Some Memory }

-- what a call that answers so makes of an import, where enough memory makes it another
abbrev pub after : Result Unit CsvFault → Intake → Intake → Intake
after (Ok done) old next = next
after (Err (BadRow row field)) old next = next
after (Err Memory) old next = starved old

-- the answer to a fault, if any
abbrev pub answer_to : Option CsvFault → Result Unit CsvFault
answer_to None = Ok tt
answer_to (Some fault) = Err fault

-- the commands appended to a list are those that an import has given with this call and had not before
pub record GivesTheNew (old new : Intake) (before after : List Given) : Type 0 where
  pub given : List Given
  pub appended : after ≡ before ++ given
  pub new_ones : commands_of new ≡ commands_of old ++ given
