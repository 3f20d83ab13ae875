-- The new slot stands at its rank, and holds nothing.
use Rattle.std.proofs.Common.{◌≡◌, ◌∙◌, ap, sym, arith, insert, subst, true}
use Rattle.std.specs.Prelude.{if◌then◌else◌}
use Rattle.sect_people.specs.Index.{rank as rank_of}
use Rattle.sect_people.proofs.RankLemmas.{rank_le-length}
use Rattle.sect_model.specs.Kept.{is_ordered_by}
use Rattle.sect_roster.specs.Slots.{Slotted}
use Rattle.sect_roster.proofs.SlotLemmas.{new-as, slots-ordered}
use Rattle.sect_roster.proofs.slots.new_slot.Goals as goal

pub rank_near-place-requires : goal.rank_near-place-requires
rank_near-place-requires g c =
    subst (λ ss. is_ordered_by (λ s. s.number) ss ≡ true) (sym (c.as_slice.ensures.value ∙ c.reserve.ensures.items)) (slots-ordered g.R.Keyed.key_of c.args.slots.now.items c.requires.slots)

pub insert-requires : goal.insert-requires
insert-requires g c =
    let ss = c.reserve.new.self.items in
    let at : c.rank_near-place.result ≡ rank_of (λ s. s.number) c.args.number ss = c.rank_near-place.ensures ∙ ap (rank_of (λ s. s.number) c.args.number) c.as_slice.ensures.value in
    omega (arith, at, rank_le-length (λ (s : Slotted g.row.R.Denot). s.number) c.args.number ss, c.reserve.new.self.ok.0)

pub returns-clause-slots : goal.returns-clause-slots
returns-clause-slots g c =
    (new-as g.R.Keyed.key_of c.args.number c.args.slots.now.items c.as_slice.result.now c.reserve.new.self.items c.insert.new.self.items c.rank_near-place.result c.empty-slot.result
    c.requires.slots c.requires.none c.reserve.ensures.items c.as_slice.ensures.value c.rank_near-place.ensures c.empty-slot.ensures (c.insert.ensures.items ∙ ap (λ b. if b then insert c.reserve.new.self.items c.rank_near-place.result c.empty-slot.result else c.reserve.new.self.items) c.if-is_err.ensures.negation)).0.slots

pub returns-clause-held : goal.returns-clause-held
returns-clause-held g c =
    (new-as g.R.Keyed.key_of c.args.number c.args.slots.now.items c.as_slice.result.now c.reserve.new.self.items c.insert.new.self.items c.rank_near-place.result c.empty-slot.result
    c.requires.slots c.requires.none c.reserve.ensures.items c.as_slice.ensures.value c.rank_near-place.ensures c.empty-slot.ensures (c.insert.ensures.items ∙ ap (λ b. if b then insert c.reserve.new.self.items c.rank_near-place.result c.empty-slot.result else c.reserve.new.self.items) c.if-is_err.ensures.negation)).0.held

pub returns-clause-capacity : goal.returns-clause-capacity
returns-clause-capacity g c =
    (new-as g.R.Keyed.key_of c.args.number c.args.slots.now.items c.as_slice.result.now c.reserve.new.self.items c.insert.new.self.items c.rank_near-place.result c.empty-slot.result
    c.requires.slots c.requires.none c.reserve.ensures.items c.as_slice.ensures.value c.rank_near-place.ensures c.empty-slot.ensures (c.insert.ensures.items ∙ ap (λ b. if b then insert c.reserve.new.self.items c.rank_near-place.result c.empty-slot.result else c.reserve.new.self.items) c.if-is_err.ensures.negation)).0.capacity

pub returns-clause-place : goal.returns-clause-place
returns-clause-place g c =
    (new-as g.R.Keyed.key_of c.args.number c.args.slots.now.items c.as_slice.result.now c.reserve.new.self.items c.insert.new.self.items c.rank_near-place.result c.empty-slot.result
    c.requires.slots c.requires.none c.reserve.ensures.items c.as_slice.ensures.value c.rank_near-place.ensures c.empty-slot.ensures (c.insert.ensures.items ∙ ap (λ b. if b then insert c.reserve.new.self.items c.rank_near-place.result c.empty-slot.result else c.reserve.new.self.items) c.if-is_err.ensures.negation)).1
