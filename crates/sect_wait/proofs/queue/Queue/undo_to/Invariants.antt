-- taking back what is left leads where taking back all leads
use Rattle.std.proofs.Common.{length}
use Rattle.sect_wait.proofs.UndoLemmas.{Going}
use Rattle.sect_wait.proofs.queue.Queue.undo_to.Given as goal

abbrev pub invariant-loop-self : goal.invariant-loop-self
invariant-loop-self l = Going l.len l.initial.self l.initial.undo l.self l.undo

abbrev pub decreases-loop-self : goal.decreases-loop-self
decreases-loop-self l = length l.undo
