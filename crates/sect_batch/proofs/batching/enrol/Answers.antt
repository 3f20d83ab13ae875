-- what the enrolment led to
use Rattle.sect_model.specs.declared.change.Change.TheVariants.{Enrol}
use Rattle.sect_batch.proofs.BatchLemmas.{made-since}
use Rattle.sect_batch.proofs.batching.enrol.Goals as goal

pub returns-clause-since : goal.returns-clause-since
returns-clause-since c =
    made-since c.args.world.now.world c.apply.new.self.world c.args.undo.now.backs c.apply.new.undo.backs (Enrol (record { student = c.args.student; choice = c.args.choice })) c.apply.result c.requires.fits
    c.apply.ensures.world c.apply.ensures.recorded c.apply.ensures.err c.apply.ensures.err_recorded
