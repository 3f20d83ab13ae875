use Rattle.std.specs.Prelude.{◌-◌}
use Rattle.sect_base.proofs.WeekPrints.{Printed}
use Rattle.sect_base.proofs.week_text.print_weeks.Given as goal

abbrev pub invariant-loop-first : goal.invariant-loop-first
invariant-loop-first l = Printed l.weeks l.initial.text l.text l.week

abbrev pub decreases-loop-first : goal.decreases-loop-first
decreases-loop-first l = 62 - l.week
