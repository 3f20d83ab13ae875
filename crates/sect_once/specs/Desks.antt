-- What contracts see of a desk, and what its fields keep.
use Rattle.std.specs.Prelude.{◌≡◌, ◌≢◌, ◌⊎◌, ℕ, ◌≤◌, ◌^◌, List, [], ◌∷◌, ◌++◌, length, slice_get, Option, Some}
use Rattle.std.specs.List.{AllZip}
use Rattle.sect_base.specs.declared.limit.Id.{Id}
use Rattle.sect_base.specs.declared.limit.Caller.{Caller}
use Rattle.sect_edge.specs.Causes.{Rose}
use Rattle.sect_edge.specs.Keeper.{AddsRow, KeepsRows}
use Rattle.sect_once.specs.declared.entry.Entry.{Entry}
use Rattle.sect_once.specs.declared.entry.Note.{Note}
use Rattle.sect_once.specs.declared.entry.Note.TheVariants.{Acted, Faulted}
use Rattle.sect_once.specs.declared.entry.Unkept.{Unkept}
use Rattle.sect_once.specs.declared.answer.Answer.{Answer}
use Rattle.sect_once.specs.declared.answer.Answer.TheVariants.{Done, NumberReused, LogFull, KeeperFault, Memory}
use Rattle.sect_once.specs.declared.answer.Seen.{Seen}
use Rattle.sect_once.specs.declared.answer.Seen.TheVariants.{New, Place, Reused}
use Rattle.sect_once.specs.History.{IsLegal, faulted, history, log_of, ActsOnce, AreUnkept, HasRow, IsFull, IsIndex, IsNew, IsReplay, NeverFull, TellsRows, state_after}
use Rattle.sect_once.specs.Faults.{AtMostFaults}
use Rattle.sect_once.specs.Told.{TellsLast}

-- an object and the entries that brought it where it is
pub record Trail (O C R : Type 0) : Type 0 where
  pub object : O
  pub entries : List (Entry C R)

-- the object, the log, the keeper, and the keeper's count of faults at the opening
pub record Standing (O C R K : Type 0) : Type 0 where
  pub object : O
  pub log : List (Note C R)
  pub keeper : K
  pub base : ℕ

module _ {O C R : Type 0} (start : O) (stepped : O → ℕ → Caller → C → O × R) where
  -- behind at most 2^20 entries with rows, the entry of each request that may be asked has a row
  abbrev pub NextHasRow : (Entry C R → List ℕ → Type 0) → (Id → ℕ → C → Type 0) → Type 0
  NextHasRow is_row may_ask =
      (es : List (Entry C R)) (rows : List (List ℕ)) (e : Entry C R) → AllZip is_row es rows → length es ≤ 2 ^ 20 → may_ask e.id e.day e.command
      → (stepped (state_after stepped start es) e.day e.id.caller e.command).1 ≡ e.reply → HasRow is_row e

  -- the object is the replay of the entries, each with the replay's reply and an id of its own
  pub record IsTrail (trail : Trail O C R) : Type 0 where
    pub replayed : trail.object ≡ state_after stepped start trail.entries
    pub replies : IsReplay stepped start trail.entries
    pub once : ActsOnce trail.entries
    pub short : length trail.entries ≤ 2 ^ 20

  -- what the fields of a past keep
  pub record IsPast (is_row : Entry C R → List ℕ → Type 0) (object : O) (entries : List (Entry C R)) (keys : List ℕ) (rows : List (List ℕ)) : Type 0 where
    pub replayed : object ≡ state_after stepped start entries
    pub replies : IsReplay stepped start entries
    pub index : IsIndex keys entries
    pub as_many : length keys ≡ length rows
    pub are_rows : AllZip is_row entries rows
    pub short : length entries ≤ 2 ^ 20

module _ {C R : Type 0} where
  -- what the fields of a desk keep beside its past
  pub record IsDesk (is_row : Entry C R → List ℕ → Type 0) (is_told : R → List ℕ → Type 0) (unkept : List Unkept) (entries : List (Entry C R)) (told : Option (List (List ℕ))) (base count : ℕ) (row : List ℕ) (reply_at : Option ℕ) : Type 0 where
    pub placed : AreUnkept 0 (length entries) unkept
    pub roomy : NeverFull is_row (log_of 0 unkept entries)
    pub kept : TellsRows is_row told entries
    pub counted : AtMostFaults (length unkept) base count
    pub last : TellsLast is_told entries row reply_at

  -- the entry at this place has this id, this command and this reply
  pub record HasEntry (log : List (Note C R)) (place : ℕ) (id : Id) (command : C) (reply : R) : Type 0 where
    pub entry : Entry C R
    pub at : slice_get (history log) place ≡ Some entry
    pub id_is : entry.id ≡ id
    pub command_is : entry.command ≡ command
    pub reply_is : entry.reply ≡ reply

  -- the entry at this place has this id and another command
  pub record HasOther (log : List (Note C R)) (place : ℕ) (id : Id) (command : C) : Type 0 where
    pub entry : Entry C R
    pub at : slice_get (history log) place ≡ Some entry
    pub id_is : entry.id ≡ id
    pub command_differs : entry.command ≢ command

  -- what an entry at a place is to a command
  abbrev pub SeesEntry : Entry C R → ℕ → C → Seen → Type 0
  SeesEntry e place command New = ⊥
  SeesEntry e place command (Place found) = (found ≡ place) × (e.command ≡ command)
  SeesEntry e place command (Reused found) = (found ≡ place) × (e.command ≢ command)

  -- what a find in these entries says
  abbrev pub FindsIn : List (Entry C R) → Id → C → Seen → Type 0
  FindsIn es id command New = IsNew id es
  FindsIn es id command (Place place) = (e : Entry C R) × (slice_get es place ≡ Some e) × (e.id ≡ id) × (e.command ≡ command)
  FindsIn es id command (Reused place) = (e : Entry C R) × (slice_get es place ≡ Some e) × (e.id ≡ id) × (e.command ≢ command)

module _ {O C R : Type 0} (stepped : O → ℕ → Caller → C → O × R) (is_row : Entry C R → List ℕ → Type 0) where
  -- the entry acts behind the others, and its row is added to those that were told
  pub record Adds (e : Entry C R) (d n : Trail O C R) (told told' : Option (List (List ℕ))) : Type 0 where
    pub object : n.object ≡ (stepped d.object e.day e.id.caller e.command).0
    pub reply : e.reply ≡ (stepped d.object e.day e.id.caller e.command).1
    pub entries : n.entries ≡ d.entries ++ e ∷ []
    pub row : List ℕ
    pub written : is_row e row
    pub added : AddsRow told told' row

module _ {O C R K : Type 0} (stepped : O → ℕ → Caller → C → O × R) (is_row : Entry C R → List ℕ → Type 0) (rows : K → Option (List (List ℕ))) (faults : K → ℕ) where
  -- the entry was acted, noted and kept
  pub record Acts (e : Entry C R) (d n : Standing O C R K) : Type 0 where
    pub is_new : IsNew e.id (history d.log)
    pub roomy : IsFull is_row d.log → ⊥
    pub object : n.object ≡ (stepped d.object e.day e.id.caller e.command).0
    pub reply : e.reply ≡ (stepped d.object e.day e.id.caller e.command).1
    pub log : n.log ≡ d.log ++ Acted e ∷ []
    pub base : n.base ≡ d.base
    pub row : List ℕ
    pub written : is_row e row
    pub added : AddsRow (rows d.keeper) (rows n.keeper) row
    pub faults_grow : faults d.keeper ≤ faults n.keeper

  -- the keeper failed, which was noted, and the object is as before
  pub record IsFaulted (id : Id) (d n : Standing O C R K) : Type 0 where
    pub is_new : IsNew id (history d.log)
    pub roomy : IsFull is_row d.log → ⊥
    pub rose : Rose (faults d.keeper) (faults n.keeper)
    pub object : n.object ≡ d.object
    pub log : n.log ≡ d.log ++ Faulted id ∷ []
    pub base : n.base ≡ d.base
    pub rows_stay : KeepsRows (rows d.keeper) (rows n.keeper)

  -- memory was wanted for a repeat or in a log with room: the log, the object and the rows are as before
  pub record IsSame (id : Id) (command : C) (d n : Standing O C R K) : Type 0 where
    pub roomy : IsNew id (history d.log) → IsFull is_row d.log → ⊥
    pub object : n.object ≡ d.object
    pub log : n.log ≡ d.log
    pub base : n.base ≡ d.base
    pub rows_stay : KeepsRows (rows d.keeper) (rows n.keeper)
    pub faults_grow : faults d.keeper ≤ faults n.keeper

  -- what an answer says of the desk before and after
  abbrev pub Answers : Id → ℕ → C → Standing O C R K → Standing O C R K → Answer R → Type 0
  Answers id day command d n (Done place reply) = HasEntry n.log place id command reply
      × ((n ≡ d) ⊎ ((place ≡ length (history d.log)) × Acts (record { id = id; day = day; command = command; reply = reply }) d n))
  Answers id day command d n (NumberReused place) = HasOther d.log place id command × (n ≡ d)
  Answers id day command d n LogFull = IsNew id (history d.log) × IsFull is_row d.log × (n ≡ d)
  Answers id day command d n KeeperFault = IsFaulted id d n
  Answers id day command d n Memory = IsSame id command d n

  -- what the type of a desk keeps
  pub record IsSound (start : O) (d : Standing O C R K) : Type 0 where
    pub legal : IsLegal stepped start d.log
    pub roomy : NeverFull is_row d.log
    pub replayed : d.object ≡ state_after stepped start (history d.log)
    pub kept : TellsRows is_row (rows d.keeper) (history d.log)
    pub counted : AtMostFaults (faulted d.log) d.base (faults d.keeper)
