use Rattle.sect_once.proofs.desk.Desk.ask_lent.Goals as goal

pub returns-in-Some-clause-answer : goal.returns-in-Some-clause-answer
returns-in-Some-clause-answer g c = c.again.ensures c.args.day
