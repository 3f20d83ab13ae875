-- one change less
use Rattle.std.proofs.Common.{arith}
use Rattle.sect_space.proofs.UndoLemmas.{undoing-more}
use Rattle.sect_space.proofs.world.World.undo_to.Goals as goal

pub loop-self-preserved : goal.loop-self-preserved
loop-self-preserved c =
    undoing-more c.args.self.now c.args.undo.now c.args.len c.loop-self.self c.loop-self.undo c.undo_last.new.self c.undo_last.new.undo
    c.loop-self.invariant (omega (arith, c.len.ensures)) c.undo_last.ensures
