-- The index knows the rows' ids.
use Rattle.std.proofs.Common.{◌∙◌, ap}
use Rattle.sect_catalog.specs.Catalogue.{Catalogue}
use Rattle.sect_catalog.specs.Fault.{known_id}
use Rattle.sect_catalog.proofs.CheckLemmas.{known-by}
use Rattle.sect_catalog.proofs.catalogue.Catalogue.known_id.Goals as goal

pub returns : goal.returns
returns c =
    let now : Catalogue = record { rows = c.self.inside.rows.items; cancelled = c.self.inside.cancelled.items } in
    c.known_id.ensures ∙ known-by c.self.inside.places now c.self.invariant.0.places c.args.row.now ∙ ap (λ at. known_id at c.args.row.now) c.self.view_is
