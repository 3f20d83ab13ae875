-- What a change led to.
use Rattle.sect_wait.proofs.PlacingLemmas.{made-since}
use Rattle.sect_machine.proofs.change.make.Goals as goal

pub returns-clause-since : goal.returns-clause-since
returns-clause-since c =
    made-since c.args.world.now.world c.apply.new.self.world c.args.undo.now.backs c.apply.new.undo.backs c.args.change c.apply.result c.requires.fits
    c.apply.ensures.world c.apply.ensures.recorded c.apply.ensures.err c.apply.ensures.err_recorded
