use Rattle.std.proofs.Common.{arith}
use Rattle.sect_once.proofs.Logs.{length-log_of}
use Rattle.sect_once.proofs.desk.Desk.notes.Goals as goal

pub returns : goal.returns
returns g c = rw (← c.self.view_is) (let long = length-log_of 0 c.self.inside.unkept.items c.self.inside.past.entries in omega (arith, long, c.acted.ensures, c.from.ensures, c.len.ensures))
