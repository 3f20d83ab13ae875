-- Each turn takes the last change back.
use Rattle.std.proofs.Common.{◌<◌, arith, length}
use Rattle.sect_wait.proofs.UndoLemmas.{going-on, going-last}
use Rattle.sect_wait.proofs.queue.Queue.undo_to.Goals as goal

pub take_back-requires : goal.take_back-requires
take_back-requires c =
    going-last c.args.len c.args.self.now c.args.undo.now c.loop-self.self c.loop-self.undo c.pop.new.self c.pop.result c.loop-self.invariant c.pop.ensures

pub loop-self-preserved : goal.loop-self-preserved
loop-self-preserved c =
    let more : c.args.len < length c.loop-self.undo = omega (arith, c.len.ensures, c.loop-self-test.true) in
    going-on c.args.len c.args.self.now c.args.undo.now c.loop-self.self c.take_back.new.self c.loop-self.undo c.pop.new.self c.pop.result c.loop-self.invariant c.pop.ensures
    more c.take_back.ensures.queue c.take_back.ensures.room
