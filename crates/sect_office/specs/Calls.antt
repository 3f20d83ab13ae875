-- How the own calls of a pass rise over asks, one after another.
use Rattle.std.specs.Prelude.{◌≡◌, ℕ, ◌+◌, ◌≤◌, List, [], ◌∷◌, ◌++◌, length}
use mathlib.Core.List.{IsPrefix}
use Rattle.sect_base.specs.declared.limit.Id.{Id}
use Rattle.sect_once.specs.declared.entry.Entry.{Entry}
use Rattle.sect_once.specs.declared.entry.Note.{Note}
use Rattle.sect_once.specs.declared.answer.Answer.{Answer}
use Rattle.sect_office.specs.Offices.{Shows}

-- the first is the low number or above it, each next one is above the one before, and all are below the high number
abbrev pub Rises : ℕ → List ℕ → ℕ → Type 0
Rises low [] high = low ≤ high
Rises low (n ∷ ns) high = (low ≤ n) × Rises (n + 1) ns high

-- the calls are those before and then such as rise from the length of the old front to that of the new one
abbrev pub AddsCalls : {N : Type 0} → List N → List N → List ℕ → List ℕ → Type 0
AddsCalls old front own own' = (calls : List ℕ) × (own' ≡ own ++ calls) × Rises (length old) calls (length front)

-- an ask of a pass, and the pass's front and calls after it
pub record Ask (C R : Type 0) : Type 0 where
  pub id : Id
  pub day : ℕ
  pub command : C
  pub answer : Answer R
  pub front : List (Note C R)
  pub own : List ℕ

module _ {C R : Type 0} (is_row : Entry C R → List ℕ → Type 0) where
  -- the asks, one after another, bring a pass from a front and its calls to others
  abbrev pub Asks : List (Note C R) → List ℕ → List (Ask C R) → List (Note C R) → List ℕ → Type 0
  Asks front own [] front' own' = (front' ≡ front) × (own' ≡ own)
  Asks front own (a ∷ asks) front' own' = IsPrefix front a.front × Shows is_row a.id a.day a.command front a.front own a.own a.answer
      × Asks a.front a.own asks front' own'
