-- What follows from the contracts of a journal and of a desk, stated for the contracts that prove it.
use Rattle.std.specs.Prelude.{◌≡◌, ℕ, List, [], ◌∷◌, ◌++◌, Option, Some, Result}
use Rattle.std.specs.List.{AllZip}
use Rattle.sect_base.specs.declared.limit.Caller.{Caller}
use Rattle.sect_base.specs.declared.limit.Id.{Id}
use Rattle.sect_journal.specs.Disk.{Told, Stays}
use Rattle.sect_journal.specs.Standing.{Standing as Journal}
use Rattle.sect_journal.specs.Opening.{IsOpened}
use Rattle.sect_journal.specs.Runs.{Call, Takes, IsRun, unanswered, begun}
use Rattle.sect_once.specs.declared.answer.OpenFault.{OpenFault}
use Rattle.sect_once.specs.declared.entry.Entry.{Entry}
use Rattle.sect_once.specs.declared.entry.Note.{Note}
use Rattle.sect_once.specs.History.{history, IsFull, IsLegal, IsNew, NeverFull}
use Rattle.sect_once.specs.Desks.{IsSound, Standing}
use Rattle.sect_once.specs.Opening.{HasHistory, Opens}
use Rattle.sect_lasting.specs.Lasting.{AreNext, AtMostOneMore, ComesBack, IsOneRowNext, LeavesDesk, answered}

module _ {O C R K : Type 0} (start : O) (stepped : O → ℕ → Caller → C → O × R) (is_row : Entry C R → List ℕ → Type 0)
    (rows : K → Option (List (List ℕ))) (faults : K → ℕ) where
  -- where a request may be asked, its id is new and the log has room, its entry has one row and can stand behind the history
  abbrev pub AnswersFollow : (Id → ℕ → C → Type 0) → Type 0
  AnswersFollow may_ask = (desk : Standing O C R K) (all : List (List ℕ)) (id : Id) (day : ℕ) (command : C)
      → IsSound stepped is_row rows faults start desk → rows desk.keeper ≡ Some all
      → may_ask id day command → IsNew id (history desk.log) → (IsFull is_row desk.log → ⊥)
      → IsOneRowNext start stepped is_row (history desk.log) (answered start stepped (history desk.log) id day command)

  -- the rows of a legal log that was never full, or these and that of one entry more, open to its history, or to this and the entry
  abbrev pub OpensToAtMostOneMore : Type 0
  OpensToAtMostOneMore = (keeper : K) (log : List (Note C R)) (entries : List (Entry C R)) (all : List (List ℕ))
      (result : Result (Standing O C R K) (OpenFault × K))
      → IsLegal stepped start log → NeverFull is_row log → AtMostOneMore start stepped is_row (history log) entries
      → rows keeper ≡ Some all → AllZip is_row entries all
      → Opens start stepped is_row rows faults keeper result → HasHistory start stepped is_row rows faults entries result

module _ {O C R D : Type 0} (start : O) (stepped : O → ℕ → Caller → C → O × R) (is_row : Entry C R → List ℕ → Type 0)
    (told : D → Option Told) (rows : Journal D → Option (List (List ℕ))) (faults : Journal D → ℕ) where
  -- a desk over a journal to which these calls lead from an opened one, where each of these groups is the row of an entry that can stand
  -- behind the desk's history
  pub record IsOver (desk : Standing O C R (Journal D)) (calls : List Call) (groups : List (List (List ℕ))) : Type 0 where
    pub before : Told
    pub first : Journal D
    pub opened : IsOpened told (Some before) first
    pub run : IsRun told calls first desk.keeper
    pub sound : IsSound stepped is_row rows faults start desk
    pub next : AreNext start stepped is_row (history desk.log) groups

  -- after a call, of the row of an entry that can stand behind its history where it appends, the desk is over its journal as before
  abbrev pub GoesOn : Type 0
  GoesOn = (desk after : Standing O C R (Journal D)) (calls : List Call) (call : Call)
      → Takes told call desk.keeper after.keeper → IsSound stepped is_row rows faults start after
      → IsOver desk calls (unanswered [] calls ++ begun call) → IsOver after (calls ++ call ∷ []) (unanswered [] (calls ++ call ∷ []))

  -- after a crash between two calls the desk's history comes back, or it and one entry more
  abbrev pub LastsBetween : Type 0
  LastsBetween = (desk : Standing O C R (Journal D)) (calls : List Call) (t : Told)
      → IsOver desk calls (unanswered [] calls) → told desk.keeper.disk ≡ Some t → LeavesDesk start stepped is_row told rows faults (history desk.log) t.now

  -- so it does after a crash at any moment of the next call
  abbrev pub LastsWithin : Type 0
  LastsWithin = (desk : Standing O C R (Journal D)) (calls : List Call) (call : Call) (after : Journal D)
      → IsOver desk calls (unanswered [] calls ++ begun call) → Takes told call desk.keeper after
      → Stays (told desk.keeper.disk) (told after.disk) (LeavesDesk start stepped is_row told rows faults (history desk.log))

  -- so it does without a crash, from what a read of the disk gives
  abbrev pub LastsWithout : Type 0
  LastsWithout = (desk : Standing O C R (Journal D)) (calls : List Call) (t : Told)
      → IsOver desk calls (unanswered [] calls) → told desk.keeper.disk ≡ Some t → ComesBack start stepped is_row told rows faults (history desk.log) t.now.seen
