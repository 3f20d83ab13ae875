-- One run after another.
use Rattle.sect_base.proofs.WeekPrints.{printed_none, printed_more, printed_all}
use Rattle.sect_base.proofs.week_text.print_weeks.Goals as goal

pub loop-first-init : goal.loop-first-init
loop-first-init c = printed_none c.args.weeks c.args.text.now

pub loop-first-preserved : goal.loop-first-preserved
loop-first-preserved c =
    printed_more c.args.weeks c.args.text.now c.loop-first.text c.print_run.new.text c.loop-first.week c.in-Some.first c.last_from-last.result c.loop-first.invariant
    c.in-Some.ensures.found c.last_from-last.ensures c.print_run.ensures.text c.print_run.ensures.length

pub returns : goal.returns
returns c = printed_all c.args.weeks c.args.text.now c.loop-first.text c.loop-first.week c.loop-first.invariant c.in_default.ensures.none
