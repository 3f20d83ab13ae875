-- What is told of a history.
use Rattle.std.specs.Prelude.{◌≡◌, ℕ, List, take, Option}
use Rattle.std.specs.Io.KnownBytes.{Appends}
use Rattle.sect_command.specs.declared.command.Command.{Command}
use Rattle.sect_command.specs.declared.reply.Reply.{Reply}
use Rattle.sect_history.specs.Step.{stepped}
use Rattle.sect_model.specs.World.{State, empty_state}
use Rattle.sect_once.specs.declared.entry.Entry.{Entry}
use Rattle.sect_once.specs.Desks.{Standing}
use Rattle.sect_once.specs.History.{history}
use Rattle.sect_once.specs.Opening.{IsOpened}
use Rattle.sect_script.specs.declared.status.Status.{Status}
use Rattle.sect_script.specs.declared.status.Status.TheVariants as statuses
use Rattle.sect_wire.specs.Laws.{IsRow}

-- the text was written, or a front of it where the sink failed, or nothing where memory was wanted
abbrev pub PrintsBy : (List ℕ → Type 0) → Option (List ℕ) → Option (List ℕ) → Status → Type 0
PrintsBy IsText taken taken' statuses.Done = (text : List ℕ) × IsText text × Appends taken taken' text
PrintsBy IsText taken taken' statuses.WriteFault = (text : List ℕ) × (n : ℕ) × IsText text × Appends taken taken' (take n text)
PrintsBy IsText taken taken' statuses.Memory = taken' ≡ taken
PrintsBy IsText taken taken' _ = ⊥

module _ {K : Type 0} (rows : K → Option (List (List ℕ))) (faults : K → ℕ) (IsText : List (Entry Command Reply) → List ℕ → Type 0) where
  -- the text of the history to which the keeper opened was written
  pub record TellsHistory (keeper back : K) (taken taken' : Option (List ℕ)) (status : Status) : Type 0 where
    pub opened : Standing State Command Reply K
    pub opens : IsOpened empty_state stepped IsRow rows faults keeper opened
    pub back_is : back ≡ opened.keeper
    pub prints : PrintsBy (IsText (history opened.log)) taken taken' status
