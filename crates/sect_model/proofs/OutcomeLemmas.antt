-- What the answers of a search say.
use Rattle.std.specs.Prelude.{◌≡◌, ℕ, ◌≤◌, Bool, true, false, nat_lt, cond, List, Option, Some, None, refl}
use Rattle.std.proofs.Common.{sym, ◌∙◌, ap, arith}
use Rattle.std.proofs.lemmas.Bool.Decides.{nat_tests}
use Rattle.sect_model.specs.Data.{Move, Choice}
use Rattle.sect_model.specs.declared.pick.Outcome.TheVariants.{Found, Spent}
use Rattle.sect_model.specs.World.{World}
use Rattle.sect_model.specs.Visits.{visits_of, full_of}
use Rattle.sect_model.specs.Outcome.{outcome_of, answer_of, first_allowed}
use Rattle.sect_model.specs.Settle.{found_in}
use Rattle.sect_model.specs.Laws.{FoundIsAllowed, FullIsNotSpent, FullIsFixed}
use Rattle.sect_model.proofs.KeptMoves.{found-allowed}
use Rattle.sect_model.proofs.VisitLemmas.{visits-steps}
use Rattle.std.proofs.lemmas.Bool.{ltb-false}

beyond : (budget n : ℕ) → nat_lt budget n ≡ true → n ≤ budget → ⊥
beyond budget n h le = grind (arith, nat_tests, h)

-- the visits that an answer tells
found-visits : (w : World) (mv : Move) (n visits : ℕ) (choices : List Choice) (o : Option (List Choice)) → answer_of w mv n o ≡ Found choices visits → n ≡ visits
found-visits w mv n visits choices None h = cc
found-visits w mv n visits choices (Some found) h = cc

not-spent : (w : World) (mv : Move) (n spent : ℕ) (o : Option (List Choice)) → answer_of w mv n o ≡ Spent spent → ⊥
not-spent w mv n spent None h = cc
not-spent w mv n spent (Some found) h = cc

found-within : (w : World) (mv : Move) (budget visits : ℕ) (choices : List Choice) → outcome_of w mv budget ≡ Found choices visits → visits ≤ budget
unfolding outcome_of
found-within w mv budget visits choices h = by_budget (nat_lt budget (visits_of w mv)) refl h
  where
    by_budget : (b : Bool) → nat_lt budget (visits_of w mv) ≡ b → cond b (Spent budget) (answer_of w mv (visits_of w mv) (first_allowed w mv)) ≡ Found choices visits → visits ≤ budget
    by_budget true e h = cc
    by_budget false e h =
        let same = found-visits w mv (visits_of w mv) visits choices (first_allowed w mv) h in
        ltb-false budget visits (ap (nat_lt budget) (sym same) ∙ e)

pub found-is-allowed : FoundIsAllowed
found-is-allowed w mv budget visits choices h = (found-allowed w mv budget choices (ap found_in h), found-within w mv budget visits choices h)

pub full-not-spent : FullIsNotSpent
unfolding outcome_of
full-not-spent w mv budget spent full h = by_budget (nat_lt budget (visits_of w mv)) refl h
  where
    most : (v f b : ℕ) → v ≤ f → f ≤ b → v ≤ b
    most v f b h k = omega (arith, h, k)

    by_budget : (b : Bool) → nat_lt budget (visits_of w mv) ≡ b → cond b (Spent budget) (answer_of w mv (visits_of w mv) (first_allowed w mv)) ≡ Spent spent → ⊥
    by_budget true e h = beyond budget (visits_of w mv) e (most (visits_of w mv) (full_of w mv) budget (visits-steps w mv) full)
    by_budget false e h = not-spent w mv (visits_of w mv) spent (first_allowed w mv) h

pub full-fixed : FullIsFixed
full-fixed w mv cancelled students restrictions roster day student give = refl
