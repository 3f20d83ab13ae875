-- The others stay, and the marks.
use Rattle.std.proofs.Common.{refl}
use Rattle.sect_wait.proofs.IndexLemmas.{own-struck}
use Rattle.sect_wait.proofs.by_student.ByStudent.strike.Goals as goal

pub returns : goal.returns
returns c = own-struck c.args.self.now (record c.args.self.now { tickets = c.strike.new.index }) c.args.ticket refl c.strike.ensures
