-- What the index tells is what the look-up finds.
use Rattle.std.proofs.Common.{◌∙◌, ap}
use Rattle.std.specs.Option.{option_and_then}
use Rattle.sect_catalog.specs.Catalogue.{find_section}
use Rattle.sect_catalog.specs.Place.{section_at}
use Rattle.sect_catalog.proofs.LookupLemmas.{section-found}
use Rattle.sect_catalog.proofs.catalogue.Catalogue.section.Goals as goal

pub returns : goal.returns
returns c =
    let i = c.self.inside in
    c.section_at.ensures
    ∙ (λ j. option_and_then (section_at (c.deref.ensures.value j)) ((c.section.ensures ∙ c.self.invariant.0.places (4, c.args.id.0)) j))
    ∙ section-found c.args.id.0 i.rows.items
    ∙ ap (λ now. find_section now.rows c.args.id) c.self.view_is
