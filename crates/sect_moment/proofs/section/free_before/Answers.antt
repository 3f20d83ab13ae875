-- Where no time is to be kept free, none is met.
use Rattle.std.proofs.Common.{sym}
use Rattle.sect_moment.proofs.LeastLemmas.{none-free}
use Rattle.sect_moment.proofs.section.free_before.Goals as goal

pub returns-else-keeps_free : goal.returns-else-keeps_free
returns-else-keeps_free c = sym (none-free c.args.meetings.now c.args.rank 1 c.args.person.now.asks (sym c.if-keeps_free.ensures))
