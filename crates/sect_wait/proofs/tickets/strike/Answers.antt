-- The others stay.
use Rattle.sect_wait.proofs.IndexLemmas.{taken-keeps}
use Rattle.sect_wait.proofs.tickets.strike.Goals as goal

pub returns : goal.returns
returns c = taken-keeps c.args.index.now c.take.new.index c.args.number c.args.ticket c.take.ensures
