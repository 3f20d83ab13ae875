-- What is found is allowed.
use Rattle.std.proofs.Common.{◌≡◌, ◌∙◌, ap, subst, sym, IsTrue}
use Rattle.std.specs.Prelude.{Some}
use Rattle.sect_model.specs.Move.{is_allowed_move}
use Rattle.sect_model.specs.Outcome.{outcome_of}
use Rattle.sect_model.specs.Settle.{found_in}
use Rattle.sect_model.proofs.KeptMoves.{found-allowed}
use Rattle.sect_machine.proofs.moves.search_move.Goals as goal

pub make_move-requires-clause-allowed : goal.make_move-requires-clause-allowed
make_move-requires-clause-allowed g c =
    let w = c.args.world.now.world in
    let mv = c.args.mv.now in
    let found : found_in (outcome_of w mv c.args.budget) ≡ Some c.in-Found.choices = ap found_in (sym c.in_ok-outcome.ensures.outcome ∙ c.in-Found.is) in
    subst (λ xs. IsTrue (is_allowed_move w mv xs)) (sym c.as_slice.ensures) (found-allowed w mv c.args.budget c.in-Found.choices found)
