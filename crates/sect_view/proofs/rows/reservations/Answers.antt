-- The rising ids find the rows in order.
use Rattle.std.proofs.Common.{◌≡◌, ◌∙◌, ap, subst, IfOk}
use Rattle.sect_view.specs.Found.{reservation_rows}
use Rattle.sect_view.proofs.RowLemmas.{reservations-by-id}
use Rattle.sect_view.proofs.rows.reservations.Goals as goal

pub returns : goal.returns
returns c =
    let w = c.args.world.now.world in
    subst (λ xs. IfOk c.reservations_of.result (λ rows. rows ≡ xs))
    (ap (reservation_rows w) (c.as_slice.ensures.value ∙ c.in_ok-ids.ensures) ∙ reservations-by-id w c.recall_kept.ensures)
    c.reservations_of.ensures
