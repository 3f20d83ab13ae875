-- When a waiting entry's search has the same outcome in two worlds, which changes leave it so, and who needs no other search.
use Rattle.std.specs.Prelude.{◌≡◌, ℕ, Bool, true, false, ◌||◌, ◌==◌, IsTrue}
use Rattle.sect_base.specs.declared.limit.Cap.TheVariants.{Section as cap_section}
use Rattle.sect_model.specs.declared.held.Waiting.{Waiting}
use Rattle.sect_model.specs.declared.change.Change.{Change}
use Rattle.sect_model.specs.declared.change.Change.TheVariants.{Cancelled, Enrol}
use Rattle.sect_model.specs.declared.pick.Outcome.TheVariants.{Spent}
use Rattle.sect_model.specs.World.{World}
use Rattle.sect_model.specs.Outcome.{outcome_of}
use Rattle.sect_model.specs.Settle.{move_of, is_placeable, waiting_budget}
use Rattle.sect_model.specs.Kept.{KeptWorld, entry_fits}
use Rattle.sect_model.specs.Fits.{Fits, changed}
use Rattle.sect_model.specs.Freer.{NoMove, NoFreer, given_up, touches, caps_wanted, may_open}

-- once the entry's course is given up, neither world is freer for it than the other
pub record ReadsSame (w v : World) (e : Waiting) : Type 0 where
  pub forth : NoFreer (given_up w e) (given_up v e) e.student e.want
  pub back : NoFreer (given_up v e) (given_up w e) e.student e.want

-- the search of the entry has the same outcome in both worlds, whatever its budget
abbrev pub SameOutcome : World → World → Waiting → Type 0
SameOutcome w v e = (budget : ℕ) → outcome_of w (move_of w e) budget ≡ outcome_of v (move_of v e) budget

-- where two good worlds read the same for an entry that fits both, its search has the same outcome in both
abbrev pub ReadsSameOutcome : Type 0
ReadsSameOutcome =
    (w v : World) (e : Waiting) → KeptWorld w → KeptWorld v → IsTrue (entry_fits w e) → IsTrue (entry_fits v e)
    → ReadsSame w v e → SameOutcome w v e

-- the change may give the entry a move, enrols in a wanted offering, or cancels a section of one
abbrev pub touches_entry : World → Waiting → Change → Bool
touches_entry w e (Cancelled id) = caps_wanted w e.want (cap_section id)
touches_entry w e (Enrol x) = x.student.0 == e.student.0 || touches w e.want x.choice.course
touches_entry w e change = may_open w e change

-- a change that may give an entry a move touches it
abbrev pub OpensTouched : Type 0
OpensTouched = (w : World) (e : Waiting) (change : Change) → IsTrue (may_open w e change) → IsTrue (touches_entry w e change)

-- a change that doesn't touch an entry leaves the outcome of its search as it is
abbrev pub UntouchedSameOutcome : Type 0
UntouchedSameOutcome =
    (w : World) (e : Waiting) (change : Change) → KeptWorld w → Fits w change → IsTrue (entry_fits w e)
    → touches_entry w e change ≡ false → SameOutcome w (changed w change) e

-- the search of the entry, with the budget of waiting entries, is spent
abbrev pub IsSpent : World → Waiting → Type 0
IsSpent w e = outcome_of w (move_of w e) waiting_budget ≡ Spent waiting_budget

-- another search of the entry would be in vain: where the last one was spent it would be too, else there is no move
abbrev pub NeedsNoSearch : World → Waiting → Bool → Type 0
NeedsNoSearch w e true = IsSpent w e
NeedsNoSearch w e false = NoMove w e

-- after the change the entry needs another search: it may have a move, or where its last one was spent, it is touched
abbrev pub needs_search : World → Waiting → Bool → Change → Bool
needs_search w e true change = touches_entry w e change
needs_search w e false change = may_open w e change

-- an entry whose search is spent needs no other one in the same world
abbrev pub SpentNeedsNone : Type 0
SpentNeedsNone = (w : World) (e : Waiting) (n : ℕ) → outcome_of w (move_of w e) waiting_budget ≡ Spent n → NeedsNoSearch w e true

-- an entry that needs no search can't be placed
abbrev pub NeedlessIsNotPlaced : Type 0
NeedlessIsNotPlaced = (w : World) (e : Waiting) (was_spent : Bool) → NeedsNoSearch w e was_spent → is_placeable w e ≡ false

-- and it goes on to need none after each change that asks for none
abbrev pub NeedlessStays : Type 0
NeedlessStays =
    (w : World) (e : Waiting) (was_spent : Bool) (change : Change) → KeptWorld w → Fits w change → IsTrue (entry_fits w e)
    → needs_search w e was_spent change ≡ false → NeedsNoSearch w e was_spent → NeedsNoSearch (changed w change) e was_spent
