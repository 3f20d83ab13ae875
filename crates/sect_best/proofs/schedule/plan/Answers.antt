-- The wants of a student's requests are at most 20, and fit.
use Rattle.std.proofs.Common.{◌≡◌, ◌∙◌, ap, arith, length, subst, sym, true}
use Rattle.std.specs.List.{list_all}
use Rattle.sect_model.specs.Batch.{asks_of}
use Rattle.sect_model.specs.Premises.{want_fits}
use Rattle.sect_best.specs.Plan.{course_asks}
use Rattle.sect_best.proofs.PlanLemmas.{few-asks, few-wants, plans-are, wants-fit}
use Rattle.sect_best.proofs.schedule.plan.Goals as goal

pub wants_of-requires : goal.wants_of-requires
wants_of-requires g c = omega (arith, ap length c.asks.ensures, few-asks c.args.world.now.world c.recall_kept.ensures c.args.student)

pub plan_wants-requires-clause-fit : goal.plan_wants-requires-clause-fit
plan_wants-requires-clause-fit g c =
    let w = c.args.world.now.world in
    subst (λ wants. list_all (want_fits w) wants ≡ true) (sym (c.in_ok-wants.ensures ∙ ap course_asks c.asks.ensures)) (wants-fit w c.recall_kept.ensures c.args.student)

pub plan_wants-requires-clause-bound : goal.plan_wants-requires-clause-bound
plan_wants-requires-clause-bound g c =
    let w = c.args.world.now.world in
    omega (arith, ap length (c.in_ok-wants.ensures ∙ ap course_asks c.asks.ensures), few-wants 1 (asks_of w c.args.student), few-asks w c.recall_kept.ensures c.args.student)

pub returns-clause-planned : goal.returns-clause-planned
returns-clause-planned g c =
    plans-are c.args.world.now.world c.args.student c.args.budget c.in_ok-wants.wants.items (c.in_ok-wants.ensures ∙ ap course_asks c.asks.ensures) c.plan_wants.result c.plan_wants.ensures.planned
