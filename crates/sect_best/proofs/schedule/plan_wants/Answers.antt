-- Each turn plans the next want.
use Rattle.std.proofs.Common.{subst}
use Rattle.std.specs.Vec.Iter.{into_iter_items}
use Rattle.sect_best.proofs.PlanLemmas.{PlansOn, plans-more}
use Rattle.sect_best.proofs.schedule.plan_wants.Goals as goal

pub loop-want-preserved : goal.loop-want-preserved
loop-want-preserved g c =
    let w = c.args.world.now.world in (
      tt,
      tt,
      plans-more w c.args.student c.args.budget c.args.wants.items c.loop-want.planned c.in_ok-planned.planned c.in-Some.want (into_iter_items c.next.new.self)
          (subst (PlansOn w c.args.student c.args.budget c.args.wants.items c.loop-want.planned) c.in-Some.ensures.steps.0 c.loop-want.invariant.2)
          c.in_ok-planned.ensures.planned c.in_ok-planned.ensures.told,
    )
