-- The rising ids find the rows in order.
use Rattle.std.proofs.Common.{◌≡◌, ◌∙◌, ap, subst, map, IfOk}
use Rattle.sect_people.specs.Order.{sorted_by}
use Rattle.sect_view.specs.Found.{offering_rows}
use Rattle.sect_view.proofs.RowLemmas.{offerings-by-id}
use Rattle.sect_view.proofs.rows.offerings.Goals as goal

pub returns : goal.returns
returns c =
    let w = c.args.world.now.world in
    subst (λ xs. IfOk c.offerings_of.result (λ rows. rows ≡ xs))
    (ap (offering_rows w) (c.as_slice.ensures.value ∙ c.in_ok-ids.ensures ∙ ap (λ rows. map (λ o. o.id) (sorted_by (λ o. o.id.0) rows)) (c.rows.ensures ∙ ap (λ k. k.rows) c.catalogue.ensures)) ∙ offerings-by-id w c.recall_kept.ensures)
    c.offerings_of.ensures
