-- A search for one want finds one choice.
use Rattle.std.specs.Prelude.{◌≡◌, ℕ, ◌*◌, ◌≤◌, Bool, true, false, ◌&&◌, List, [], ◌∷◌, length, Result, Ok, Err, IfOk, refl}
use Rattle.std.proofs.Common.{sym, ◌∙◌, ap, arith}
use Rattle.sect_model.specs.Allowed.{is_allowed}
use Rattle.sect_model.specs.Data.{Choice, Move, StudentId, Want}
use Rattle.sect_model.specs.Move.{are_allowed}
use Rattle.sect_model.specs.Outcome.{outcome_of}
use Rattle.sect_model.specs.Premises.{WorldKeeps}
use Rattle.sect_model.specs.Search.{found, search_of, searched_outcome}
use Rattle.sect_model.specs.Settle.{found_in}
use Rattle.sect_model.specs.Stands.{MoveStands}
use Rattle.sect_model.specs.World.{World, leave_all}
use Rattle.sect_model.proofs.KeptMoves.{found-allowed}
use Rattle.sect_model.proofs.SearchLemmas.{search-answers}
use Rattle.sect_search.specs.declared.one.OneOutcome.{OneOutcome}
use Rattle.sect_search.specs.One.{listed}
use Rattle.sect_search.specs.Texts.{IsTold}
use Rattle.sect_search.specs.Told.{OutcomeNumbers}
use Rattle.sect_search.proofs.TextLemmas.{outcome-told, told-more}

and_none : (b : Bool) → b && false ≡ true → ⊥
and_none true h = cc
and_none false h = cc

-- as many choices are allowed as are wanted
one-allowed : (w : World) (student : StudentId) (wants : List Want) (choices : List Choice) → length wants ≡ 1 → are_allowed w student wants choices ≡ true → length choices ≡ 1
one-allowed w student [] choices one h = absurd (omega (arith, one))
one-allowed w student (want ∷ more ∷ wants) choices one h = absurd (omega (arith, one))
one-allowed w student (want ∷ []) [] one h = cc
one-allowed w student (want ∷ []) (c ∷ []) one h = refl
one-allowed w student (want ∷ []) (c ∷ d ∷ ds) one h = absurd (and_none (is_allowed w student want c) h)

-- what is found is one choice
pub one-choice : (w : World) (mv : Move) (budget left : ℕ) (choices : List Choice) → WorldKeeps w → MoveStands w mv → length mv.take ≡ 1 → found choices left ≡ search_of w mv budget → length choices ≡ 1
one-choice w mv budget left choices keeps standing one h =
    one-allowed (leave_all w mv.student mv.give) mv.student mv.take choices one
    (found-allowed w mv budget choices (ap found_in (search-answers w mv budget keeps standing) ∙ ap (λ r. found_in (searched_outcome budget r)) (sym h)))

-- its answer is told
pub one-told : {E : Type 0} (w : World) (mv : Move) (budget : ℕ) (r : Result OneOutcome E) → WorldKeeps w → MoveStands w mv → length mv.take ≡ 1
    → IfOk r (λ answer. listed answer ≡ outcome_of w mv budget) → IfOk r (λ answer. OutcomeNumbers (listed answer)) → IfOk r (λ answer. IsTold (listed answer))
one-told w mv budget (Ok answer) keeps standing one h small = told-more (9 * length mv.take) 36 (listed answer) (few (length mv.take) one) (outcome-told w mv budget (listed answer) keeps standing h small)
  where
    few : (n : ℕ) → n ≡ 1 → 9 * n ≤ 36
    few n one = omega (arith, one)
one-told w mv budget (Err x) keeps standing one h small = tt
