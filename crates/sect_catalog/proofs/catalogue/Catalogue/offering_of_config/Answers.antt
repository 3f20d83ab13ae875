-- What the index tells is what the look-up finds.
use Rattle.std.proofs.Common.{◌∙◌, ap}
use Rattle.std.specs.Option.{option_and_then}
use Rattle.std.specs.List.{slice_get}
use Rattle.sect_catalog.specs.Catalogue.{offering_of_config}
use Rattle.sect_catalog.proofs.LookupOfferings.{config-offering-found}
use Rattle.sect_catalog.proofs.catalogue.Catalogue.offering_of_config.Goals as goal

pub returns : goal.returns
returns c =
    let i = c.self.inside in
    c.offering_at.ensures
    ∙ (λ j. option_and_then (λ at. slice_get (c.deref.ensures.value j) at.row) ((c.config.ensures ∙ c.self.invariant.0.places (2, c.args.id.0)) j))
    ∙ config-offering-found c.args.id.0 i.rows.items
    ∙ ap (λ now. offering_of_config now.rows c.args.id) c.self.view_is
