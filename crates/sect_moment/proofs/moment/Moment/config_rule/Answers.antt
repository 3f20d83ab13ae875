-- the configuration is the offering's own, and the catalogue finds it there
use Rattle.std.proofs.Common.{sym, ◌∙◌, ap}
use Rattle.std.specs.Option.{option_map_or, option_and_then, is_some}
use Rattle.std.specs.Prelude.{false}
use Rattle.sect_catalog.specs.Catalogue.{places}
use Rattle.sect_model.specs.Choice.{config_in}
use Rattle.sect_moment.proofs.IdLemmas.{config-found}
use Rattle.sect_moment.proofs.OwnLemmas.{config-own}
use Rattle.sect_moment.proofs.moment.Moment.config_rule.Goals as goal

pub closed-closed-requires-clause-own : goal.closed-closed-requires-clause-own
closed-closed-requires-clause-own c =
    let a = c.args in
    config-own a.self.now.at c.recall_kept.ensures.checked a.course a.row.now.id a.ground.now.offering.now c.recall_kept.ensures.fit c.requires.offering
    ((λ i. option_map_or (λ o. is_some (config_in o a.row.now.id)) (c.requires.offering i) false) ∙ ap is_some c.requires.row)

pub closed-closed-requires-clause-places : goal.closed-closed-requires-clause-places
closed-closed-requires-clause-places c =
    let a = c.args in
    c.limited.ensures
    ∙ ap (option_and_then (λ g. places g.limit))
    (sym c.requires.row ∙ config-found a.self.now.at c.recall_kept.ensures.checked a.course a.row.now.id a.ground.now.offering.now c.requires.offering (ap is_some c.requires.row))
