-- What the import of a table does over a keeper.
use Rattle.std.specs.Prelude.{◌⊎◌, ℕ, List, Option}
use Rattle.sect_base.specs.declared.limit.Caller.{Caller}
use Rattle.sect_command.specs.declared.command.Command.{Command}
use Rattle.sect_command.specs.declared.reply.Reply.{Reply}
use Rattle.sect_command.specs.declared.view.Table.{Table}
use Rattle.sect_once.specs.declared.entry.Entry.{Entry}
use Rattle.sect_script.specs.declared.status.Status.{Status}
use Rattle.sect_asking.specs.Desk.{RunsOver, StaysShut}
use Rattle.sect_app.specs.Asking.{AnswersNumbered}
use Rattle.sect_app.specs.Table.{RanTable}

module _ {O K : Type 0} (start : O) (stepped : O → ℕ → Caller → Command → O × Reply) (is_row : Entry Command Reply → List ℕ → Type 0) (rows : K → Option (List (List ℕ))) (faults : K → ℕ) where
  -- the commands of the table were asked of the desk to which the keeper opened
  abbrev pub RunsTable : Table → Option ℕ → ℕ → K → K → Option (List ℕ) → Option (List ℕ) → Option (List ℕ) → Option (List ℕ) → Option (List ℕ) → Status → Type 0
  RunsTable table term first keeper back left left' taken taken' days status =
      RunsOver start stepped is_row rows faults (RanTable (AnswersNumbered stepped is_row rows faults) table term first left left' taken taken') keeper back days status

  -- the keeper opened and the commands were asked, or it didn't open
  abbrev pub TakesTable : Table → Option ℕ → ℕ → K → K → Option (List ℕ) → Option (List ℕ) → Option (List ℕ) → Option (List ℕ) → Option (List ℕ) → Status → Type 0
  TakesTable table term first keeper back left left' taken taken' days status =
      RunsTable table term first keeper back left left' taken taken' days status ⊎ StaysShut start stepped is_row rows faults keeper back left left' taken taken' status
