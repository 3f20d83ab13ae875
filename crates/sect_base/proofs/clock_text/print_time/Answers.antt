-- A clock, a dash and a clock.
use Rattle.sect_base.proofs.ClockLemmas.{time_joined}
use Rattle.sect_base.proofs.clock_text.print_time.Goals as goal

pub returns-clause-text : goal.returns-clause-text
returns-clause-text c =
    time_joined c.args.text.now c.print_clock.new.text c.push.new.self c.print_clock-2.new.text c.args.start c.args.end c.print_clock.ensures.text c.push.ensures
    c.print_clock-2.ensures.text
