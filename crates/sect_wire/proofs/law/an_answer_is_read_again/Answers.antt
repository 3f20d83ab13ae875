-- The text of an answer is that of its data, and is read again.
use Rattle.sect_wire.proofs.Again.{again, written}
use Rattle.sect_wire.proofs.law.an_answer_is_read_again.Goals as goal

pub returns-clause-written : goal.returns-clause-written
returns-clause-written c = written

pub returns-clause-again : goal.returns-clause-again
returns-clause-again c = again
