-- the rows have the limits that the definitions give, and a reservation names its own offering alone
use Rattle.std.proofs.Common.{◌∙◌, ap, sym}
use Rattle.std.specs.Option.{option_and_then}
use Rattle.sect_catalog.specs.Catalogue.{places, places_of_all}
use Rattle.sect_space.proofs.Bounds.{configs-few}
use Rattle.sect_moment.proofs.ReservedLemmas.{own-offering}
use Rattle.sect_moment.proofs.moment.Moment.offering_rule.Goals as goal

pub is_full-requires : goal.is_full-requires
is_full-requires c = c.limited.ensures ∙ ap (option_and_then (λ x. places x.limit)) (sym c.requires.course)

pub offering_places-places-requires : goal.offering_places-places-requires
offering_places-places-requires c =
    configs-few c.args.self.now.at.catalogue.rows c.recall_kept.ensures.checked c.args.ground.now.offering.now.id c.args.ground.now.offering.now c.requires.offering

pub closed-closed-requires-clause-own : goal.closed-closed-requires-clause-own
closed-closed-requires-clause-own c = own-offering c.args.self.now.at.reservations c.args.ground.now.offering.now.id

pub closed-closed-requires-clause-places : goal.closed-closed-requires-clause-places
closed-closed-requires-clause-places c = c.offering_places-places.ensures.value ∙ ap (option_and_then (λ o. places_of_all o.configs)) (sym c.requires.offering)
