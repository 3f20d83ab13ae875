-- What a keeper's rows open to.
use Rattle.std.specs.Prelude.{◌≡◌, ◌⊎◌, ℕ, ◌≤◌, Bool, true, false, List, [], ◌∷◌, ◌++◌, length, take, ⊤, Option, Some, slice_get, Result, Ok, Err}
use Rattle.std.specs.List.{AllZip}
use Rattle.sect_base.specs.declared.limit.Id.{Id}
use Rattle.sect_base.specs.declared.limit.Caller.{Caller}
use Rattle.sect_edge.specs.Causes.{Rose}
use Rattle.sect_edge.specs.Keeper.{FindsRow, KeepsRows}
use Rattle.sect_edge.specs.declared.edge.KeepFault.{KeepFault}
use Rattle.sect_edge.specs.declared.edge.KeepFault.TheVariants as kept
use Rattle.sect_once.specs.declared.answer.OpenFault.{OpenFault}
use Rattle.sect_once.specs.declared.answer.OpenFault.TheVariants as fault
use Rattle.sect_once.specs.declared.entry.Entry.{Entry}
use Rattle.sect_once.specs.declared.entry.Note.{Note}
use Rattle.sect_once.specs.Desks.{IsSound, Standing, Trail}
use Rattle.sect_once.specs.History.{acted_log, history, IsFull, IsLegal, IsNew, NeverFull, state_after}

-- a keeper's fault, as an opening tells it
abbrev pub open_fault : KeepFault → OpenFault
open_fault kept.Failed = fault.KeeperFault
open_fault kept.Memory = fault.Memory

module _ {O C R : Type 0} (start : O) (stepped : O → ℕ → Caller → C → O × R) (is_row : Entry C R → List ℕ → Type 0) where
  -- the entry can stand behind these, and this is its row
  pub record Follows (es : List (Entry C R)) (row : List ℕ) (e : Entry C R) : Type 0 where
    pub roomy : IsFull is_row (acted_log es) → ⊥
    pub written : is_row e row
    pub is_new : IsNew e.id es
    pub replied : (stepped (state_after stepped start es) e.day e.id.caller e.command).1 ≡ e.reply

  -- an entry has the id
  abbrev pub HasActed : Id → List (Entry C R) → Type 0
  HasActed id es = (place : ℕ) × (e : Entry C R) × (slice_get es place ≡ Some e) × (e.id ≡ id)

  -- the entry's reply is the object's behind these entries
  abbrev pub IsReplied : List (Entry C R) → Entry C R → Type 0
  IsReplied es e = (stepped (state_after stepped start es) e.day e.id.caller e.command).1 ≡ e.reply

  -- the row behind these entries is missing, stands where the log is full, is no entry, is of an id that acted, or has another reply than the object's
  abbrev pub IsBad : List (Entry C R) → Bool → List ℕ → Type 0
  IsBad es false row = ⊤
  IsBad es true row = IsFull is_row (acted_log es)
      ⊎ (((e : Entry C R) → is_row e row → ⊥) ⊎ ((e : Entry C R) × is_row e row × (HasActed e.id es ⊎ (IsReplied es e → ⊥))))

  -- whether an entry is taken behind others: its reply is the object's, or all is as before
  abbrev pub Resumes : Trail O C R → Trail O C R → Entry C R → Bool → Type 0
  Resumes old new e true = IsReplied old.entries e × (new.entries ≡ old.entries ++ e ∷ [])
  Resumes old new e false = (IsReplied old.entries e → ⊥) × (new ≡ old)

  -- whether a request is taken again behind others: the row is that of its entry with the object's reply, or all is as before
  abbrev pub ActsAgain : Trail O C R → Trail O C R → Id → ℕ → C → List ℕ → Bool → Type 0
  ActsAgain old new id day command row true = (e : Entry C R) × (e.id ≡ id) × is_row e row × IsReplied old.entries e × (new.entries ≡ old.entries ++ e ∷ [])
  ActsAgain old new id day command row false = new ≡ old

  -- whether a row is taken behind others: it's that of an entry that follows them, or it's bad and all is as before
  abbrev pub Takes : Trail O C R → Trail O C R → List ℕ → Bool → Type 0
  Takes old new row true = (e : Entry C R) × Follows old.entries row e × (new.entries ≡ old.entries ++ e ∷ [])
  Takes old new row false = IsBad old.entries true row × (new ≡ old)

  -- whether a row is taken at once behind others: it's that of an entry that follows them, or all is as before
  abbrev pub TakesAtOnce : Trail O C R → Trail O C R → List ℕ → Bool → Type 0
  TakesAtOnce old new row true = Takes old new row true
  TakesAtOnce old new row false = new ≡ old

  -- the next row that the keeper told was taken
  pub record TakesNext (told : Option (List (List ℕ))) (old new : Trail O C R) (at : ℕ) : Type 0 where
    pub row : List ℕ
    pub entry : Entry C R
    pub found : FindsRow told at true row
    pub follows : Follows old.entries row entry
    pub entries : new.entries ≡ old.entries ++ entry ∷ []

  -- why the next row wasn't taken
  pub record IsBadNext (told : Option (List (List ℕ))) (es : List (Entry C R)) (at : ℕ) : Type 0 where
    pub row : List ℕ
    pub found : Bool
    pub finds : FindsRow told at found row
    pub bad : IsBad es found row

  -- row number i is bad, and those before it are the rows of a legal log that was never full; of rows that are told none is missing
  pub record IsFirstBad (told : Option (List (List ℕ))) (i : ℕ) : Type 0 where
    pub entries : List (Entry C R)
    pub count : length entries ≡ i
    pub legal : IsLegal stepped start (acted_log entries)
    pub roomy : NeverFull is_row (acted_log entries)
    pub before : (all : List (List ℕ)) → told ≡ Some all → AllZip is_row entries (take i all)
    pub found : Bool
    pub row : List ℕ
    pub at : FindsRow told i found row
    pub there : (all : List (List ℕ)) → told ≡ Some all → found ≡ true
    pub bad : IsBad entries found row

module _ {O C R K : Type 0} (start : O) (stepped : O → ℕ → Caller → C → O × R) (is_row : Entry C R → List ℕ → Type 0) (rows : K → Option (List (List ℕ))) (faults : K → ℕ) where
  -- why a row wasn't taken
  abbrev pub IsRowCause : K → K → List (Entry C R) → ℕ → OpenFault → Type 0
  IsRowCause keeper back es at fault.KeeperFault = Rose (faults keeper) (faults back)
  IsRowCause keeper back es at (fault.BadEntry i) = (i ≡ at) × IsBadNext start stepped is_row (rows keeper) es at
  IsRowCause keeper back es at fault.Memory = ⊤

  -- why a keeper doesn't open
  abbrev pub IsCause : K → K → OpenFault → Type 0
  IsCause keeper back fault.KeeperFault = Rose (faults keeper) (faults back)
  IsCause keeper back (fault.BadEntry i) = IsFirstBad start stepped is_row (rows keeper) i
  IsCause keeper back fault.Memory = ⊤

  -- the desk that a keeper opens to
  pub record IsOpened (keeper : K) (d : Standing O C R K) : Type 0 where
    pub no_faults : d.log ≡ acted_log (history d.log)
    pub base : d.base ≡ faults keeper
    pub rows_stay : KeepsRows (rows keeper) (rows d.keeper)
    pub sound : IsSound stepped is_row rows faults start d

  -- what an opening gives
  abbrev pub Opens : K → Result (Standing O C R K) (OpenFault × K) → Type 0
  Opens keeper (Ok d) = IsOpened keeper d
  Opens keeper (Err (fault, back)) = IsCause keeper back fault × KeepsRows (rows keeper) (rows back) × (faults keeper ≤ faults back)

  -- what an opening of a log's rows gives: its history, or a fault of the keeper or of memory
  abbrev pub HasHistory : List (Entry C R) → Result (Standing O C R K) (OpenFault × K) → Type 0
  HasHistory es (Ok d) = history d.log ≡ es
  HasHistory es (Err (fault.KeeperFault, back)) = ⊤
  HasHistory es (Err (fault.BadEntry i, back)) = ⊥
  HasHistory es (Err (fault.Memory, back)) = ⊤

  -- a keeper with the rows of a legal log that was never full opens to its history, full or not
  abbrev pub Reopens : K → Result (Standing O C R K) (OpenFault × K) → Type 0
  Reopens keeper result = (log : List (Note C R)) (all : List (List ℕ)) → rows keeper ≡ Some all → IsLegal stepped start log → NeverFull is_row log → AllZip is_row (history log) all → HasHistory (history log) result
