-- What the search finds fits, and enrolling by it makes the move.
use Rattle.std.proofs.Common.{◌≡◌, ◌∷◌, ◌∙◌, [], ap, sym}
use Rattle.sect_model.specs.Outcome.{outcome_of}
use Rattle.sect_model.specs.Step.{enrol_move}
use Rattle.sect_search.specs.One.{listed}
use Rattle.sect_machine.proofs.MoveLemmas.{one-fits}
use Rattle.sect_machine.proofs.moves.enrol.Goals as goal

pub make-requires-clause-fits : goal.make-requires-clause-fits
make-requires-clause-fits g c =
    let w = c.args.world.now.world in
    let outcome : outcome_of w (enrol_move c.args.student c.args.want.now) c.args.budget ≡ listed c.in_ok-found.found =
    sym (c.in_ok-found.ensures.outcome ∙ (λ i. outcome_of w ((c.one-mv.ensures ∙ ap (λ want. enrol_move c.args.student want) c.of.ensures) i) c.args.budget)) in
    one-fits w c.args.student c.args.want.now c.args.budget c.in-Found.field-1 c.in-Found.choice c.requires.fits.student (outcome ∙ ap listed c.in-Found.is)
