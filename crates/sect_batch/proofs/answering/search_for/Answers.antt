-- what the search found may be enrolled
use Rattle.std.proofs.Common.{◌≡◌, ◌∙◌, subst, sym}
use Rattle.sect_model.specs.Outcome.{outcome_of}
use Rattle.sect_model.specs.Batch.{request_move}
use Rattle.sect_search.specs.One.{listed}
use Rattle.sect_batch.specs.Lines.{MetFits}
use Rattle.sect_batch.proofs.LineLemmas.{met-fits}
use Rattle.sect_batch.proofs.answering.search_for.Goals as goal

pub returns-clause-met : goal.returns-clause-met
returns-clause-met g c =
    let w = c.args.world.now.world in
    let mv = request_move c.args.student c.args.ask.now c.args.rank in
    let outcome : outcome_of w mv 2000 ≡ listed c.in_ok-found.found = sym (c.in_ok-found.ensures.outcome ∙ (λ i. outcome_of w (c.request_move-mv.ensures i) (c.usual_budget.ensures i))) in
    subst (MetFits w c.args.student) (sym c.result_of.ensures) (met-fits w c.args.student c.args.rank c.args.ask.now (listed c.in_ok-found.found) c.requires.known outcome)
