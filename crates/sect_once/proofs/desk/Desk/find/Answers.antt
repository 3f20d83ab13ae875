use Rattle.sect_once.specs.History.{history}
use Rattle.sect_once.proofs.Logs.{finds_from}
use Rattle.sect_once.proofs.desk.Desk.find.Goals as goal

pub returns-in-Some-clause-seen : goal.returns-in-Some-clause-seen
returns-in-Some-clause-seen g c = let found = rw c.in-Some.is at c.in_ok-entry_with.ensures.found in
    finds_from (history c.args.self.now.log) c.in-Some.entry c.in-Some.place c.args.id.now c.args.command.now c.seen_at.result found.0 found.1 c.seen_at.ensures
