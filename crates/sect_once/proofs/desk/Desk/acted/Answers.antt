use Rattle.std.proofs.Common.{ap, sym, ◌∙◌, length}
use Rattle.sect_once.proofs.Logs.{history-log_of}
use Rattle.sect_once.proofs.desk.Desk.acted.Goals as goal

pub returns : goal.returns
returns g c = rw (← c.self.view_is) (c.acted.ensures ∙ ap length (sym (history-log_of 0 c.self.inside.unkept.items c.self.inside.past.entries)))
