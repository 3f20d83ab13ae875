-- The row stands at its place, and its mark behind the lower ids.
use Rattle.std.proofs.Common.{◌≡◌, ◌∙◌, ◌==◌, ◌+◌, ap, false}
use Rattle.std.specs.List.{find, insert}
use Rattle.std.specs.Option.{is_some}
use Rattle.sect_people.specs.Index.{rank}
use Rattle.sect_model.specs.World.{put_behind}
use Rattle.sect_roster.proofs.KeepsLemmas.{keeps-as, put-keeps}
use Rattle.sect_roster.proofs.listing.Listing.put_back.Goals as goal

pub invariant_of-self : goal.invariant_of-self
invariant_of-self g c =
    let rs = c.self.inside.slots.items in
    let ms = c.self.inside.marks.items in
    let key = g.R.Keyed.key_of in
    let id = g.R.Filed.id_of in
    let place = rank key (key c.args.row) rs + c.args.place in
    let new : is_some (find (λ r. id r == id c.args.row) rs) ≡ false = ap (λ v. is_some (find (λ r. id r == id c.args.row) v.items)) c.self.view_is ∙ c.requires.absent in
    keeps-as key id c.put_back.new.self.items (insert rs place c.args.row) c.put_mark.new.marks.items (put_behind (λ m. m.id) (record { id = id c.args.row; offering = key c.args.row }) ms)
    (ap (λ v. v.items) c.put_back.ensures)
    (c.put_mark.ensures.items ∙ ap (λ m. put_behind (λ m. m.id) m ms) c.mark_of.ensures)
    (put-keeps key id rs ms c.self.invariant c.args.row place new)
