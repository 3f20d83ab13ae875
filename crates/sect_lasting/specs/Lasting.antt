-- What the disk of a journal opens to, as a journal and as a desk over it.
use Rattle.std.specs.Prelude.{◌≡◌, ◌⊎◌, ℕ, List, [], ◌∷◌, ◌++◌, Contains, Option, Some, Result, Ok}
use Rattle.std.specs.List.{AllZip}
use Rattle.sect_base.specs.declared.limit.Caller.{Caller}
use Rattle.sect_base.specs.declared.limit.Id.{Id}
use Rattle.sect_journal.specs.declared.journal.JournalFault.TheVariants.{BadJournal}
use Rattle.sect_journal.specs.Disk.{Content, Told, IsImage}
use Rattle.sect_journal.specs.Text.{journal_rows}
use Rattle.sect_journal.specs.Standing.{Standing as Journal}
use Rattle.sect_journal.specs.Opening.{IsBadAt, IsOpened, prepared}
use Rattle.sect_once.specs.declared.answer.OpenFault.{OpenFault}
use Rattle.sect_once.specs.declared.entry.Entry.{Entry}
use Rattle.sect_once.specs.History.{state_after}
use Rattle.sect_once.specs.Desks.{Standing}
use Rattle.sect_once.specs.Opening.{Follows, HasHistory, Opens}

-- the entry of a request that acts behind these entries
abbrev pub answered : {O C R : Type 0} → O → (O → ℕ → Caller → C → O × R) → List (Entry C R) → Id → ℕ → C → Entry C R
answered start stepped es id day command =
    record { id = id; day = day; command = command; reply = (stepped (state_after stepped start es) day id.caller command).1 }

module _ {O C R : Type 0} (start : O) (stepped : O → ℕ → Caller → C → O × R) (is_row : Entry C R → List ℕ → Type 0) where
  -- the entry has one row, and can stand behind these
  pub record IsOneRowNext (es : List (Entry C R)) (e : Entry C R) : Type 0 where
    pub row : List ℕ
    pub follows : Follows start stepped is_row es row e
    pub only : (other : List ℕ) → is_row e other → other ≡ row

  -- each of these groups is the row alone of an entry that can stand behind these entries
  abbrev pub AreNext : List (Entry C R) → List (List (List ℕ)) → Type 0
  AreNext es groups = (group : List (List ℕ)) → Contains groups group
      → (e : Entry C R) × (row : List ℕ) × Follows start stepped is_row es row e × (group ≡ row ∷ [])

  -- the entries `fs` are these, or these and one more that can stand behind them
  abbrev pub AtMostOneMore : List (Entry C R) → List (Entry C R) → Type 0
  AtMostOneMore es fs = (fs ≡ es) ⊎ ((e : Entry C R) × (row : List ℕ) × Follows start stepped is_row es row e × (fs ≡ es ++ e ∷ []))

module _ {O C R D : Type 0} (start : O) (stepped : O → ℕ → Caller → C → O × R) (is_row : Entry C R → List ℕ → Type 0)
    (told : D → Option Told) (rows : Journal D → Option (List (List ℕ))) (faults : Journal D → ℕ) where
  -- these bytes are a journal with the rows of these entries, or of these and one more. Where a journal is started on a disk that gives
  -- them, no gate is bad; and a desk that is opened over it has the entries of its rows, but for a fault of the disk or want of memory
  pub record ComesBack (es : List (Entry C R)) (bytes : List ℕ) : Type 0 where
    pub entries : List (Entry C R)
    pub at_most : AtMostOneMore start stepped is_row es entries
    pub all : List (List ℕ)
    pub opens : journal_rows bytes ≡ Ok all
    pub are_rows : AllZip is_row entries all
    pub starts : (u : Told) (place : ℕ) → u.now.seen ≡ bytes → IsBadAt (prepared (Some u)) (BadJournal place) → ⊥
    pub reopens : (u : Told) (journal : Journal D) (result : Result (Standing O C R (Journal D)) (OpenFault × Journal D))
        → u.now.seen ≡ bytes → IsOpened told (prepared (Some u)) journal → Opens start stepped is_row rows faults journal result
        → HasHistory start stepped is_row rows faults entries result

  -- each image that a crash may leave is such bytes
  abbrev pub LeavesDesk : List (Entry C R) → Content → Type 0
  LeavesDesk es c = (image : List ℕ) → IsImage c image → ComesBack es image
