-- The number that is kept is that of the entries that give a course up.
use Rattle.std.proofs.Common.{◌∙◌, ap, nat_lt}
use Rattle.sect_wait.proofs.GiverLemmas.{givers-some}
use Rattle.sect_wait.proofs.queue.Queue.gives_some.Goals as goal

pub returns : goal.returns
returns c = rw (← c.self.view_is) (ap (nat_lt 0) c.self.invariant.givers ∙ givers-some c.self.inside.entries.items)
