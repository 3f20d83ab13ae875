-- Whom the change concerns is whom it may give a move, and of those noted as spent whom it touches.
use Rattle.std.specs.Prelude.{option_copied, refl}
use Rattle.sect_model.specs.Freer.{frees_some}
use Rattle.sect_model.specs.World.{offering_of}
use Rattle.sect_wait.proofs.MarkLemmas.{enrol-marks}
use Rattle.sect_wait.proofs.OnlyLemmas.{enrol-only}
use Rattle.sect_wait.proofs.marking.mark_enrolment.Goals as goal

pub returns-clause-more : goal.returns-clause-more
returns-clause-more c =
    let w = c.args.world.now.world in
    let x = c.args.enrolment.now in
    enrol-marks w c.args.queue.now.queue.entries x (option_copied c.freed-row.result) (offering_of w x.choice.course) c.args.marks.now c.mark.new.marks c.mark_noted_by.new.marks c.mark_noted_by.result
    c.recall_kept.ensures c.freed-row.ensures refl c.in_ok-mark.ensures.more c.mark_noted_by.ensures.more

pub returns-clause-only : goal.returns-clause-only
returns-clause-only c =
    let w = c.args.world.now.world in
    let x = c.args.enrolment.now in
    enrol-only w c.args.queue.now.queue.entries x.student x.choice.course (frees_some w x.choice) (option_copied c.freed-row.result) (offering_of w x.choice.course) c.args.marks.now c.mark.new.marks c.mark_noted_by.new.marks c.mark_noted_by.result
    c.recall_kept.ensures c.freed-row.ensures refl c.in_ok-mark.ensures.only c.mark_noted_by.ensures.only
