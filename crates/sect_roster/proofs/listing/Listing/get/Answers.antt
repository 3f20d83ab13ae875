-- What stands at the place among those of its offering is what a look-up finds.
use Rattle.std.proofs.Common.{◌≡◌, ◌∙◌, ◌==◌, ap, sym, Some}
use Rattle.std.specs.List.{find, slice_get}
use Rattle.std.specs.Option.{option_map}
use Rattle.sect_roster.proofs.FoundLemmas.{got}
use Rattle.sect_roster.proofs.SpotLemmas.{read-among}
use Rattle.sect_roster.proofs.listing.Listing.get.Goals as goal

pub returns : goal.returns
returns g c =
    let key = g.R.Keyed.key_of in
    let id = g.R.Filed.id_of in
    let p = λ (r : g.row.R.Denot). id r == c.args.id in
    let rs = c.self.inside.slots.items in
    let known : option_map key (find p rs) ≡ Some c.in_ok-offering.offering = ap (λ v. option_map key (find p v.items)) c.self.view_is ∙ sym c.offering.ensures ∙ c.in_ok-offering.was in
    got c.get.result c.rows_of-rows.result.now c.first_of.result c.get.ensures.lookup.3
    ∙ ap (λ xs. slice_get xs c.first_of.result) c.rows_of-rows.ensures
    ∙ read-among key p c.in_ok-offering.offering rs known c.rows_of-rows.result.now c.first_of.result c.rows_of-rows.ensures c.first_of.ensures
    ∙ ap (λ v. find p v.items) c.self.view_is
