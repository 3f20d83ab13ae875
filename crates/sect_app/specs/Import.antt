-- What the import of a table does over the machine's history.
use Rattle.std.specs.Prelude.{◌⊎◌, ℕ, List, Option}
use Rattle.sect_command.specs.declared.view.Table.{Table}
use Rattle.sect_history.specs.Step.{stepped}
use Rattle.sect_history.specs.Throughout.{IsGoodThroughout}
use Rattle.sect_model.specs.World.{empty_state}
use Rattle.sect_once.specs.History.{history}
use Rattle.sect_wire.specs.Laws.{IsRow}
use Rattle.sect_script.specs.declared.status.Status.{Status}
use Rattle.sect_asking.specs.Desk.{StaysShut}
use Rattle.sect_app.specs.Opened.{RunsTable}

module _ {K : Type 0} (rows : K → Option (List (List ℕ))) (faults : K → ℕ) where
  -- the commands of the table were asked of the machine's history, which is good throughout
  pub record ImportsTable (table : Table) (term : Option ℕ) (first : ℕ) (keeper back : K) (left left' taken taken' days : Option (List ℕ)) (status : Status) : Type 0 where
    pub runs : RunsTable empty_state stepped IsRow rows faults table term first keeper back left left' taken taken' days status
    pub good : IsGoodThroughout (history runs.last.desk.log)

  -- the commands of the table were asked of the machine's history, or the keeper didn't open
  abbrev pub Imports : Table → Option ℕ → ℕ → K → K → Option (List ℕ) → Option (List ℕ) → Option (List ℕ) → Option (List ℕ) → Option (List ℕ) → Status → Type 0
  Imports table term first keeper back left left' taken taken' days status =
      ImportsTable table term first keeper back left left' taken taken' days status ⊎ StaysShut empty_state stepped IsRow rows faults keeper back left left' taken taken' status
