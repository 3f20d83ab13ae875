use Rattle.sect_once.proofs.Logs.{history-log_of}
use Rattle.sect_once.proofs.desk.Desk.place_with.Goals as goal

pub returns-clause-found : goal.returns-clause-found
returns-clause-found g c = rw (← c.self.view_is, history-log_of 0 c.self.inside.unkept.items c.self.inside.past.entries) c.place_of.ensures.found

pub returns-clause-none : goal.returns-clause-none
returns-clause-none g c = rw (← c.self.view_is, history-log_of 0 c.self.inside.unkept.items c.self.inside.past.entries) c.place_of.ensures.none
