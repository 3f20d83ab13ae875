-- What is planned so far, and the wants left.
use Rattle.std.specs.Vec.Iter.{into_iter_items}
use Rattle.sect_best.proofs.PlanLemmas.{PlansOn}
use Rattle.sect_best.proofs.schedule.plan_wants.Given as goal

abbrev pub invariant-loop-want : goal.invariant-loop-want
invariant-loop-want g l =
    (goal.iterator-loop-want g).can_next l.want-iterator
    × (goal.iterator-loop-want g).is_finite l.want-iterator
    × PlansOn l.fn.world.world l.fn.student l.fn.budget l.fn.wants.items l.planned (into_iter_items l.want-iterator)
