-- What the index tells is what the look-up finds.
use Rattle.std.proofs.Common.{◌∙◌, ap}
use Rattle.std.specs.Option.{option_and_then}
use Rattle.sect_catalog.specs.Catalogue.{find_config}
use Rattle.sect_catalog.specs.Place.{config_at}
use Rattle.sect_catalog.proofs.LookupMore.{config-found}
use Rattle.sect_catalog.proofs.catalogue.Catalogue.config.Goals as goal

pub returns : goal.returns
returns c =
    let i = c.self.inside in
    c.config_at.ensures
    ∙ (λ j. option_and_then (config_at (c.deref.ensures.value j)) ((c.config.ensures ∙ c.self.invariant.0.places (2, c.args.id.0)) j))
    ∙ config-found c.args.id.0 i.rows.items
    ∙ ap (λ now. find_config now.rows c.args.id) c.self.view_is
