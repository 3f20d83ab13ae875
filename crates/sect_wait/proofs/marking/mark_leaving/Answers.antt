-- Whom the change concerns is whom it may give a move.
use Rattle.std.specs.Prelude.{option_copied}
use Rattle.sect_wait.proofs.MarkLemmas.{leave-marks}
use Rattle.sect_wait.proofs.OnlyLemmas.{leave-only}
use Rattle.sect_wait.proofs.marking.mark_leaving.Goals as goal

pub returns-clause-more : goal.returns-clause-more
returns-clause-more c =
    leave-marks c.args.world.now.world c.args.queue.now.queue.entries c.args.student c.args.course (option_copied c.offering_of-row.result) c.args.marks.now c.mark.new.marks c.mark.result c.recall_kept.ensures c.offering_of-row.ensures c.mark.ensures.more

pub returns-clause-only : goal.returns-clause-only
returns-clause-only c =
    leave-only c.args.world.now.world c.args.queue.now.queue.entries c.args.student c.args.course (option_copied c.offering_of-row.result) c.args.marks.now c.mark.new.marks c.mark.result c.recall_kept.ensures c.offering_of-row.ensures c.mark.ensures.only
