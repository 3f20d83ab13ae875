-- Each turn marks those of one offering more.
use Rattle.std.proofs.Common.{◌∙◌, List, ap, subst}
use Rattle.std.specs.List.{list_any}
use Rattle.sect_model.specs.Data.{OfferingRow, Reservation}
use Rattle.sect_model.specs.Allowed.{reservations_of}
use Rattle.sect_wait.specs.Marked.{MarksMore}
use Rattle.sect_wait.proofs.ToldLemmas.{each-marked}
use Rattle.sect_machine.specs.Opening.{flip_opens, flip_opens_of}
use Rattle.sect_machine.proofs.flipping.mark_offerings.Goals as goal

pub loop-row-preserved : goal.loop-row-preserved
loop-row-preserved c =
    let w = c.args.world.now.world in
    let es = c.args.queue.now.queue.entries in
    let k = c.loop-row.marks in
    let n = c.mark_flips.new.marks in
    each-marked (flip_opens_of w c.args.day) c.args.rows.now c.loop-row.row-index c.row-item.result es c.args.marks.now k n c.loop-row-test.true c.loop-row.invariant
    (subst (λ (rs : List Reservation). MarksMore (λ e. list_any (λ r. flip_opens w c.args.day r e) rs) es k n)
    (c.reservations.ensures ∙ ap (λ (o : OfferingRow). reservations_of w o.id) c.row-item.is) c.in_ok-mark_flips.ensures)
