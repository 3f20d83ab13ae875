-- The lines are those of what is planned.
use Rattle.sect_best.proofs.PlanLemmas.{lines-are}
use Rattle.sect_best.proofs.schedule.counted.Goals as goal

pub returns-clause-lines : goal.returns-clause-lines
returns-clause-lines g c =
    lines-are (λ lines. lines.items) c.args.world.now.world c.args.student c.args.budget c.in_ok-plan.field-0 c.in_ok-plan.ensures.planned c.into_lines.result c.into_lines.ensures.lines
