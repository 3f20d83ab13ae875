-- The index tells the offering.
use Rattle.std.proofs.Common.{◌∙◌, ◌==◌, ap}
use Rattle.std.specs.List.{find}
use Rattle.std.specs.Option.{option_map}
use Rattle.sect_roster.proofs.listing.Listing.offering.Goals as goal

pub returns : goal.returns
returns g c =
    c.offering_of.ensures
    ∙ ap (λ ms. option_map (λ m. m.offering) (find (λ m. m.id == c.args.id) ms)) c.as_slice.ensures.value
    ∙ c.self.invariant.told c.args.id
    ∙ ap (λ v. option_map g.R.Keyed.key_of (find (λ r. g.R.Filed.id_of r == c.args.id) v.items)) c.self.view_is
