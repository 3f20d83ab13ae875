-- A look changes nothing of the clock.
use Rattle.sect_answer.proofs.doing.act.Goals as goal

pub returns-in-Looks-clause-does : goal.returns-in-Looks-clause-does
returns-in-Looks-clause-does g c = rw c.in-Looks.is (c.look.ensures.does (g.C.Clock.days c.args.clock.now))
