-- An entry that needs no search can't be placed, and goes on to need none until a change asks for one.
use Rattle.std.specs.Prelude.{◌≡◌, ℕ, nat_lt, Bool, true, false, cond, List, Option, Some, None, refl}
use Rattle.std.specs.Option.{option_map_or}
use Rattle.std.proofs.Common.{sym, ◌∙◌, ap}
use Rattle.sect_model.specs.Data.{Move, Choice}
use Rattle.sect_model.specs.declared.pick.Outcome.TheVariants.{Spent}
use Rattle.sect_model.specs.World.{World}
use Rattle.sect_model.specs.Visits.{visits_of}
use Rattle.sect_model.specs.Outcome.{outcome_of, answer_of, first_allowed}
use Rattle.sect_model.specs.Settle.{move_of, found_in, waiting_budget}
use Rattle.sect_model.proofs.FreerChanges.{changes-open}
use Rattle.sect_model.proofs.FreerSettle.{no-move-unplaced}
use Rattle.sect_frame.specs.Frame.{SpentNeedsNone, NeedlessIsNotPlaced, NeedlessStays}
use Rattle.sect_frame.proofs.OutcomeLemmas.{untouched-outcome}

-- a spent search tells its budget
spent-budget : (w : World) (mv : Move) (budget n : ℕ) → outcome_of w mv budget ≡ Spent n → outcome_of w mv budget ≡ Spent budget
unfolding outcome_of
spent-budget w mv budget n h = by_budget (nat_lt budget (visits_of w mv)) (first_allowed w mv) h
  where
    by_budget : (b : Bool) (o : Option (List Choice)) → cond b (Spent budget) (answer_of w mv (visits_of w mv) o) ≡ Spent n → cond b (Spent budget) (answer_of w mv (visits_of w mv) o) ≡ Spent budget
    by_budget true o h = refl
    by_budget false (Some choices) h = cc
    by_budget false None h = cc

pub spent-needs-none : SpentNeedsNone
spent-needs-none w e n h = spent-budget w (move_of w e) waiting_budget n h

pub needless-unplaced : NeedlessIsNotPlaced
needless-unplaced w e true h = ap (λ o. option_map_or (λ choices. true) (found_in o) false) h
needless-unplaced w e false h = no-move-unplaced w e h

pub needless-stays : NeedlessStays
needless-stays w e true change k fits entry away h = sym (untouched-outcome w e change k fits entry away waiting_budget) ∙ h
needless-stays w e false change k fits entry away h = changes-open w e change k fits entry away h
