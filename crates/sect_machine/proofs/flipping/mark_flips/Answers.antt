-- Each turn marks those of one reservation more.
use Rattle.std.proofs.Common.{subst}
use Rattle.sect_model.specs.Data.{Reservation}
use Rattle.sect_wait.specs.Marked.{MarksMore}
use Rattle.sect_wait.proofs.ToldLemmas.{each-marked}
use Rattle.sect_machine.specs.Opening.{flip_opens}
use Rattle.sect_machine.proofs.flipping.mark_flips.Goals as goal

pub loop-row-preserved : goal.loop-row-preserved
loop-row-preserved c =
    let w = c.args.world.now.world in
    let es = c.args.queue.now.queue.entries in
    let k = c.loop-row.marks in
    let n = c.mark_flip.new.marks in
    each-marked (flip_opens w c.args.day) c.args.rows.now c.loop-row.row-index c.row-item.result es c.args.marks.now k n c.loop-row-test.true c.loop-row.invariant
    (subst (λ (r : Reservation). MarksMore (flip_opens w c.args.day r) es k n) c.row-item.is c.in_ok-mark_flip.ensures)
