-- The marks tell each id and no other.
use Rattle.std.proofs.Common.{◌∙◌, ap, map}
use Rattle.sect_people.specs.Order.{sorted_by}
use Rattle.sect_roster.proofs.IdLemmas.{ids-told}
use Rattle.sect_roster.proofs.listing.Listing.marks.Goals as goal

pub returns : goal.returns
returns g c =
    let id = g.R.Filed.id_of in
    ap (map (λ m. m.id)) c.as_slice.ensures.value
    ∙ ids-told g.R.Keyed.key_of id c.self.inside.slots.items c.self.inside.marks.items c.self.invariant
    ∙ ap (λ v. map id (sorted_by id v.items)) c.self.view_is
