-- an offering has at most ten configurations
use Rattle.std.proofs.Common.{◌∙◌, sym, ap}
use Rattle.std.specs.Option.{option_copied}
use Rattle.sect_catalog.specs.Catalogue.{find_offering}
use Rattle.sect_space.proofs.Bounds.{configs-few}
use Rattle.sect_space.proofs.world.World.places_of.Goals as goal

pub offering_places-requires : goal.offering_places-requires
offering_places-requires c =
    configs-few c.args.self.now.world.catalogue.rows c.recall_kept.ensures.rows_pass c.args.id c.in-Some.row.now
    (sym (ap (λ k. find_offering k.rows c.args.id) c.catalogue.ensures) ∙ sym c.offering.ensures ∙ ap option_copied c.in-Some.is)
