-- What the desk does with the sectioning machine.
use Rattle.std.specs.Prelude.{◌≡◌, ◌⊎◌, ℕ, List, Option}
use Rattle.sect_history.specs.Step.{stepped}
use Rattle.sect_history.specs.Throughout.{IsGoodThroughout}
use Rattle.sect_model.specs.World.{empty_state}
use Rattle.sect_once.specs.History.{history}
use Rattle.sect_wire.specs.Laws.{IsRow}
use Rattle.sect_script.specs.declared.status.Status.{Status}
use Rattle.sect_usage.specs.declared.words.Words.{Words}
use Rattle.sect_usage.specs.declared.words.Words.TheVariants as asked
use Rattle.sect_usage.specs.Help.{help_text, version_text}
use Rattle.sect_tell.specs.Audit.{Audits}
use Rattle.sect_tell.specs.Told.{TellsHistory}
use Rattle.sect_tell.specs.Views.{IsPlan, IsReport, IsSurvey}
use Rattle.sect_asking.specs.Desk.{RunsLines, StaysShut}
use Rattle.sect_app.specs.Import.{Imports}
use Rattle.sect_script.specs.Statuses.{Says}
use Rattle.sect_app.specs.Made.{Makes}
use Rattle.sect_app.specs.Returns.{ComesBack}

module _ {K : Type 0} (rows : K → Option (List (List ℕ))) (faults : K → ℕ) where
  -- the lines were asked of the machine's history, which is good throughout
  pub record RunsDesk (keeper back : K) (left left' taken taken' days : Option (List ℕ)) (status : Status) : Type 0 where
    pub runs : RunsLines empty_state stepped IsRow rows faults keeper back left left' taken taken' days status
    pub good : IsGoodThroughout (history runs.last.desk.log)

  -- the keeper didn't open, and nothing was read or written
  abbrev pub DeskStaysShut : K → K → Option (List ℕ) → Option (List ℕ) → Option (List ℕ) → Option (List ℕ) → Status → Type 0
  DeskStaysShut keeper back left left' taken taken' status = StaysShut empty_state stepped IsRow rows faults keeper back left left' taken taken' status

  -- what was done for these words
  abbrev pub DeskDoes : Words → K → K → Option (List ℕ) → Option (List ℕ) → Option (List ℕ) → Option (List ℕ) → Option (List ℕ) → Status → Type 0
  DeskDoes asked.Run keeper back left left' taken taken' days status =
      RunsDesk keeper back left left' taken taken' days status ⊎ DeskStaysShut keeper back left left' taken taken' status
  -- what is asked and answered on connections is told beside this
  DeskDoes (asked.Serve port workers sessions) keeper back left left' taken taken' days status = (left' ≡ left) × (taken' ≡ taken)
  DeskDoes asked.Audit keeper back left left' taken taken' days status =
      Audits rows faults keeper back taken taken' status ⊎ DeskStaysShut keeper back left left' taken taken' status
  DeskDoes (asked.Report query) keeper back left left' taken taken' days status =
      TellsHistory rows faults (IsReport query) keeper back taken taken' status ⊎ DeskStaysShut keeper back left left' taken taken' status
  DeskDoes (asked.Export table) keeper back left left' taken taken' days status =
      TellsHistory rows faults (ComesBack table) keeper back taken taken' status ⊎ DeskStaysShut keeper back left left' taken taken' status
  DeskDoes (asked.Plan student budget) keeper back left left' taken taken' days status =
      TellsHistory rows faults (IsPlan student budget) keeper back taken taken' status ⊎ DeskStaysShut keeper back left left' taken taken' status
  DeskDoes asked.Survey keeper back left left' taken taken' days status =
      TellsHistory rows faults IsSurvey keeper back taken taken' status ⊎ DeskStaysShut keeper back left left' taken taken' status
  DeskDoes (asked.Import table first term) keeper back left left' taken taken' days status =
      Imports rows faults table term first keeper back left left' taken taken' days status
  DeskDoes (asked.Make offerings) keeper back left left' taken taken' days status = Makes offerings days taken taken' status × (back ≡ keeper)
  DeskDoes (asked.Help topic) keeper back left left' taken taken' days status = Says (help_text topic) taken taken' status × (back ≡ keeper)
  DeskDoes asked.Version keeper back left left' taken taken' days status = Says version_text taken taken' status × (back ≡ keeper)
