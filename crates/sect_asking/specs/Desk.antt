-- What a run over a keeper is.
use Rattle.std.specs.Prelude.{◌≡◌, ◌⊎◌, ℕ, ◌≤◌, List, ◌++◌, Option, Some, None}
use Rattle.std.specs.List.{AllZip}
use Rattle.sect_base.specs.declared.limit.Caller.{Caller}
use Rattle.sect_command.specs.declared.command.Command.{Command}
use Rattle.sect_command.specs.declared.reply.Reply.{Reply}
use Rattle.sect_edge.specs.Causes.{Rose}
use Rattle.sect_edge.specs.Keeper.{KeepsRows}
use Rattle.sect_once.specs.declared.answer.OpenFault.{OpenFault}
use Rattle.sect_once.specs.declared.answer.OpenFault.TheVariants as shut
use Rattle.sect_once.specs.declared.entry.Entry.{Entry}
use Rattle.sect_once.specs.declared.entry.Note.{Note}
use Rattle.sect_once.specs.Desks.{IsSound, Standing}
use Rattle.sect_once.specs.History.{faulted, history}
use Rattle.sect_once.specs.Opening.{IsCause, IsOpened}
use Rattle.sect_script.specs.declared.script.RunEnd.{RunEnd}
use Rattle.sect_script.specs.declared.status.Status.{Status}
use Rattle.sect_script.specs.declared.status.Status.TheVariants as statuses
use Rattle.sect_asking.specs.Asks.{AnswersScript, IsKnown, Sitting}
use Rattle.sect_script.specs.Run.{Ran}
use Rattle.sect_script.specs.Statuses.{status_of}

-- the status where the keeper didn't open
abbrev pub shut_status : OpenFault → Status
shut_status shut.KeeperFault = statuses.KeeperFault
shut_status (shut.BadEntry row) = statuses.BadEntry row
shut_status shut.Memory = statuses.Memory

module _ {C R : Type 0} (is_row : Entry C R → List ℕ → Type 0) where
  -- the rows of these entries stand behind the others, and a keeper that doesn't tell its rows never begins to
  abbrev pub AddsRows : Option (List (List ℕ)) → Option (List (List ℕ)) → List (Entry C R) → Type 0
  AddsRows None new entries = new ≡ None
  AddsRows (Some old) new entries = (more : List (List ℕ)) × (new ≡ Some (old ++ more)) × AllZip is_row entries more

module _ {O C R K : Type 0} (is_row : Entry C R → List ℕ → Type 0) (rows : K → Option (List (List ℕ))) where
  -- what a desk has noted since, and what its keeper keeps of it
  pub record Grows (old new : Standing O C R K) : Type 0 where
    pub notes : List (Note C R)
    pub log_is : new.log ≡ old.log ++ notes
    pub rows_are : AddsRows is_row (rows old.keeper) (rows new.keeper) (history notes)
    pub base : new.base ≡ old.base

module _ {O K : Type 0} (start : O) (stepped : O → ℕ → Caller → Command → O × Reply) (is_row : Entry Command Reply → List ℕ → Type 0) (rows : K → Option (List (List ℕ))) (faults : K → ℕ) where
  -- what was asked of the desk to which the keeper opened led from its first sitting to its last, and ended so
  pub record RunsOver (Asked : Sitting O Command Reply K → Sitting O Command Reply K → RunEnd → Type 0) (keeper back : K) (days : Option (List ℕ)) (status : Status) : Type 0 where
    pub opened : Standing O Command Reply K
    pub last : Sitting O Command Reply K
    pub end : RunEnd
    pub status_is : status ≡ status_of end
    pub opens : IsOpened start stepped is_row rows faults keeper opened
    pub ran : Asked (record { desk = opened; days = days }) last end
    pub sound : IsSound stepped is_row rows faults start last.desk
    pub grows : Grows is_row rows opened last.desk
    pub back_is : back ≡ last.desk.keeper
    -- the rows of the requests that acted first in this run stand behind those that the keeper opened with
    pub rows_are : AddsRows is_row (rows keeper) (rows back) (history grows.notes)
    -- a request is faulted only where the keeper's count rose
    pub quiet : (Rose (faults keeper) (faults back) → ⊥) → faulted grows.notes ≡ 0

  -- the lines of the input were asked, from one sitting to another
  abbrev pub RanScript : Option (List ℕ) → Option (List ℕ) → Option (List ℕ) → Option (List ℕ) → Sitting O Command Reply K → Sitting O Command Reply K → RunEnd → Type 0
  RanScript left left' taken taken' first last end = Ran IsKnown (AnswersScript stepped is_row rows faults) left left' taken taken' first last end

  -- the lines of the input were asked of the desk to which the keeper opened
  abbrev pub RunsLines : K → K → Option (List ℕ) → Option (List ℕ) → Option (List ℕ) → Option (List ℕ) → Option (List ℕ) → Status → Type 0
  RunsLines keeper back left left' taken taken' days status = RunsOver (RanScript left left' taken taken') keeper back days status

  -- the keeper didn't open, and nothing was read or written
  pub record StaysShut (keeper back : K) (left left' taken taken' : Option (List ℕ)) (status : Status) : Type 0 where
    pub fault : OpenFault
    pub status_is : status ≡ shut_status fault
    pub cause : IsCause start stepped is_row rows faults keeper back fault
    pub rows_stay : KeepsRows (rows keeper) (rows back)
    pub later : faults keeper ≤ faults back
    pub unread : left' ≡ left
    pub unwritten : taken' ≡ taken

  -- the keeper opened and the lines were asked, or it didn't open
  abbrev pub Runs : K → K → Option (List ℕ) → Option (List ℕ) → Option (List ℕ) → Option (List ℕ) → Option (List ℕ) → Status → Type 0
  Runs keeper back left left' taken taken' days status =
      RunsLines keeper back left left' taken taken' days status ⊎ StaysShut keeper back left left' taken taken' status
