-- The slots rise, and each has rows of its number alone.
use Rattle.std.proofs.Common.{◌∙◌, ap, sym}
use Rattle.sect_model.specs.Kept.{is_ordered_by}
use Rattle.sect_roster.proofs.SlotLemmas.{in-order}
use Rattle.sect_roster.proofs.slots.Slots.recall_order.Goals as goal

pub returns : goal.returns
returns g c = ap (λ v. is_ordered_by g.R.Keyed.key_of v.items) (sym c.self.view_is) ∙ in-order g.R.Keyed.key_of c.self.inside.slots.items c.self.invariant
