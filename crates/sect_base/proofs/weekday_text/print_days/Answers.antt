-- Each letter that is due comes next.
use Rattle.std.proofs.Common.{arith, sym, ◌∙◌}
use Rattle.sect_base.proofs.WeekdayLemmas.{lettered_none, lettered_set, lettered_unset, lettered_all}
use Rattle.sect_base.proofs.weekday_text.print_days.Goals as goal
use Rattle.sect_base.proofs.weekday_text.print_days.Goals.{then-is_bit_set, else-is_bit_set}

pub loop-day-init : goal.loop-day-init
loop-day-init c = lettered_none c.args.days c.args.text.now

pub loop-day-preserved : goal.loop-day-preserved
loop-day-preserved c = elim c.if-is_bit_set.branch [
  | then-is_bit_set w ↦
      lettered_set c.args.days c.args.text.now c.loop-day.text c.if-is_bit_set.text c.loop-day.day (omega arith) (sym (rw c.from.ensures at w.if-is_bit_set.ensures))
      (rw w.from-then-is_bit_set.ensures at (w.text-is ∙ w.push.ensures)) c.loop-day.invariant
  | else-is_bit_set w ↦
      rw w.text-is (lettered_unset c.args.days c.args.text.now c.loop-day.text c.loop-day.day (omega arith) (sym (rw c.from.ensures at w.if-is_bit_set.ensures)) c.loop-day.invariant)
]

pub returns-clause-text : goal.returns-clause-text
returns-clause-text c = lettered_all c.args.days c.args.text.now c.loop-day.text c.loop-day.day c.loop-day-test.false c.loop-day.invariant
