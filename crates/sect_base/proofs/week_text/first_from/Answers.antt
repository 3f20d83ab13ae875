-- The lowest bit of what is left.
use Rattle.sect_base.proofs.WeekBits.{none_from, first_from}
use Rattle.sect_base.proofs.week_text.first_from.Goals as goal

pub returns-then-rest-eq0-clause-none : goal.returns-then-rest-eq0-clause-none
returns-then-rest-eq0-clause-none c = none_from c.args.weeks c.args.from c.if-rest-eq0.true

pub returns-else-rest-eq0-clause-found : goal.returns-else-rest-eq0-clause-found
returns-else-rest-eq0-clause-found c = first_from c.args.weeks c.args.from c.ranges.weeks.fits c.if-rest-eq0.false
