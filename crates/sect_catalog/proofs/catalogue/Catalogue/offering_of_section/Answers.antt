-- What the index tells is what the look-up finds.
use Rattle.std.proofs.Common.{◌∙◌, ap}
use Rattle.std.specs.Option.{option_and_then}
use Rattle.std.specs.List.{slice_get}
use Rattle.sect_catalog.specs.Catalogue.{offering_of_section}
use Rattle.sect_catalog.proofs.LookupOfferings.{section-offering-found}
use Rattle.sect_catalog.proofs.catalogue.Catalogue.offering_of_section.Goals as goal

pub returns : goal.returns
returns c =
    let i = c.self.inside in
    c.offering_at.ensures
    ∙ (λ j. option_and_then (λ at. slice_get (c.deref.ensures.value j) at.row) ((c.section.ensures ∙ c.self.invariant.0.places (4, c.args.id.0)) j))
    ∙ section-offering-found c.args.id.0 i.rows.items
    ∙ ap (λ now. offering_of_section now.rows c.args.id) c.self.view_is
