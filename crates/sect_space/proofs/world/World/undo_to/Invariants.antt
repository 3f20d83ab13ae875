-- what is left to take back
use Rattle.std.proofs.Common.{length}
use Rattle.sect_space.specs.Undoing.{Undoing}
use Rattle.sect_space.proofs.world.World.undo_to.Given as goal

abbrev pub invariant-loop-self : goal.invariant-loop-self
invariant-loop-self l = Undoing l.initial.self l.initial.undo l.len l.self l.undo

abbrev pub decreases-loop-self : goal.decreases-loop-self
decreases-loop-self l = length l.undo.backs
