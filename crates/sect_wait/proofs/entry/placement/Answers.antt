-- What the search for the entry's want finds.
use Rattle.std.proofs.Common.{◌≡◌, ◌∙◌, ap, sym}
use Rattle.sect_model.specs.Outcome.{outcome_of}
use Rattle.sect_model.specs.Settle.{found_in, move_of}
use Rattle.sect_search.specs.One.{listed}
use Rattle.sect_wait.proofs.MarkLemmas.{blocked-rest, spent-rest}
use Rattle.sect_wait.proofs.entry.placement.Goals as goal

pub returns-in-Found-clause-choice : goal.returns-in-Found-clause-choice
returns-in-Found-clause-choice g c =
    let w = c.args.world.now.world in
    let e = c.args.entry.now in
    let outcome : listed c.in_ok-found.found ≡ outcome_of w (move_of w e) 2000 = c.in_ok-found.ensures.outcome ∙ (λ i. outcome_of w (c.move_of-mv.ensures i) (c.usual_budget.ensures i)) in
    ap found_in (sym (ap listed c.in-Found.is) ∙ outcome)

pub returns-in-Blocked-clause-others : goal.returns-in-Blocked-clause-others
returns-in-Blocked-clause-others g c =
    let w = c.args.world.now.world in
    let e = c.args.entry.now in
    let outcome : listed c.in_ok-found.found ≡ outcome_of w (move_of w e) 2000 = c.in_ok-found.ensures.outcome ∙ (λ i. outcome_of w (c.move_of-mv.ensures i) (c.usual_budget.ensures i)) in
    blocked-rest w e c.args.left.now (listed c.in_ok-found.found) c.in-Blocked.field-0 c.in-Blocked.field-1 c.recall_kept.ensures c.requires outcome (ap listed c.in-Blocked.is)

pub returns-clause-others : goal.returns-clause-others
returns-clause-others g c =
    let w = c.args.world.now.world in
    let e = c.args.entry.now in
    let outcome : listed c.in_ok-found.found ≡ outcome_of w (move_of w e) 2000 = c.in_ok-found.ensures.outcome ∙ (λ i. outcome_of w (c.move_of-mv.ensures i) (c.usual_budget.ensures i)) in
    spent-rest w e (record { again = c.args.left.now.again; spent = c.push-in-Spent.new.self }) c.args.left.now.spent.items (listed c.in_ok-found.found) c.in-Spent.field-0 c.in_ok-push-in-Spent.ensures.items outcome (ap listed c.in-Spent.is)
