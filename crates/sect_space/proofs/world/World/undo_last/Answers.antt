-- the last change can be taken back, and then those before it
use Rattle.std.proofs.Common.{subst}
use Rattle.sect_space.specs.Undo.{Undoable}
use Rattle.sect_space.proofs.UndoLemmas.{last-made, last-undone}
use Rattle.sect_space.proofs.world.World.undo_last.Goals as goal

pub take_back-requires : goal.take_back-requires
take_back-requires c =
    last-made c.args.self.now c.pop-back.new.self.backs c.pop-back.result (subst (Undoable c.args.self.now) c.pop-back.ensures.backs c.requires.undoable)

pub returns : goal.returns
returns c =
    last-undone c.args.self.now c.args.undo.now c.take_back.new.self c.pop-back.new.self c.pop-back.result c.requires.undoable c.pop-back.ensures.backs c.pop-back.ensures.spare
    c.take_back.ensures.taken c.take_back.ensures.uses
