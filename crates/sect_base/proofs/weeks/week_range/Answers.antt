-- The difference of two shifted ones is a run of bits.
use Rattle.sect_base.proofs.WeekLemmas.{shifts, shift_in_order}
use Rattle.sect_base.proofs.weeks.week_range.Goals as goal

pub overflow_sub-result : goal.overflow_sub-result
overflow_sub-result c = shift_in_order c.args.first c.args.last c.requires.order c.requires.bound

pub returns : goal.returns
returns c = shifts c.args.first c.args.last c.requires.order c.requires.bound
