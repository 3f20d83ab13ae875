-- What an office answers, over the front of the pass.
use Rattle.std.specs.Prelude.{◌≡◌, ◌⊎◌, ℕ, List, [], ◌∷◌, ◌++◌, length}
use mathlib.Core.List.{IsPrefix}
use Rattle.sect_base.specs.declared.limit.Id.{Id}
use Rattle.sect_once.specs.declared.entry.Entry.{Entry}
use Rattle.sect_once.specs.declared.entry.Note.{Note}
use Rattle.sect_once.specs.declared.entry.Note.TheVariants.{Acted, Faulted}
use Rattle.sect_once.specs.declared.answer.Answer.{Answer}
use Rattle.sect_once.specs.declared.answer.Answer.TheVariants.{Done, NumberReused, LogFull, KeeperFault, Memory}
use Rattle.sect_once.specs.History.{history, IsNew, IsFull}
use Rattle.sect_once.specs.Desks.{HasEntry, HasOther}

module _ {C R : Type 0} (is_row : Entry C R → List ℕ → Type 0) where
  -- the note is the front's last and the one new call of the pass, behind notes that begin with the old front, in which its id was new and which weren't full
  pub record IsLast (id : Id) (note : Note C R) (old front : List (Note C R)) (own own' : List ℕ) : Type 0 where
    pub before : List (Note C R)
    pub grown : IsPrefix old before
    pub is_new : IsNew id (history before)
    pub roomy : IsFull is_row before → ⊥
    pub front_is : front ≡ before ++ note ∷ []
    pub own_is : own' ≡ own ++ length before ∷ []

  -- what the pass's fronts and its calls before and after have of the answer
  abbrev pub Shows : Id → ℕ → C → List (Note C R) → List (Note C R) → List ℕ → List ℕ → Answer R → Type 0
  Shows id day command old front own own' (Done place reply) = HasEntry front place id command reply
      × ((own' ≡ own) ⊎ IsLast id (Acted (record { id = id; day = day; command = command; reply = reply })) old front own own')
  Shows id day command old front own own' (NumberReused place) = HasOther front place id command × (own' ≡ own)
  Shows id day command old front own own' LogFull = IsNew id (history front) × IsFull is_row front × (own' ≡ own)
  Shows id day command old front own own' KeeperFault = IsLast id (Faulted id) old front own own'
  Shows id day command old front own own' Memory = (IsNew id (history front) → IsFull is_row front → ⊥) × (own' ≡ own)
