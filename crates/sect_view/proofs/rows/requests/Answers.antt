-- The rising ids find the rows in order.
use Rattle.std.proofs.Common.{◌≡◌, ◌∙◌, ap, subst, IfOk}
use Rattle.sect_people.specs.Changes.{ids_of}
use Rattle.sect_view.specs.Found.{request_rows}
use Rattle.sect_view.proofs.RowLemmas.{requests-by-id}
use Rattle.sect_view.proofs.rows.requests.Goals as goal

pub returns : goal.returns
returns c =
    let w = c.args.world.now.world in
    subst (λ xs. IfOk c.requests_of.result (λ rows. rows ≡ xs))
    (ap (request_rows w) (c.ids.ensures.value ∙ ap ids_of c.people.ensures) ∙ requests-by-id w c.recall_kept.ensures)
    c.requests_of.ensures
