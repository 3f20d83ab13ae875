-- One less in the slot of the number.
use Rattle.std.proofs.Common.{◌∙◌, ◌==◌, ap, sym, arith, length, slice_get}
use Rattle.std.specs.List.{list_any}
use Rattle.std.proofs.lemmas.Bool.{eqb-true}
use Rattle.sect_roster.specs.Slots.{rows_of, number_of, capacity_of}
use Rattle.sect_roster.proofs.Changed.{at, own-items, own-room, left-mine, back, set-own, set-slots, set-rooms}
use Rattle.sect_roster.proofs.SlotLemmas.{absent-none}
use Rattle.sect_roster.proofs.slots.Slots.remove.Goals as goal

pub unreachable-requires : goal.unreachable-requires
unreachable-requires g c =
    let n = c.args.number in
    let key = g.R.Keyed.key_of in
    let none = absent-none key n c.self.inside.slots.items c.self.invariant (ap (λ ts. list_any (λ s. s.number == n) ts) (sym c.as_slice.ensures.value) ∙ c.in-None.ensures.none) in
    omega (arith, ap length none, ap (λ v. number_of key n v.items) c.self.view_is, c.requires)

pub remove-requires : goal.remove-requires
remove-requires g c =
    let n = c.args.number in
    let key = g.R.Keyed.key_of in
    let ss = c.self.inside.slots.items in
    let a = at key ss c.as_slice.result.now n c.in-Some.slot c.index_mut.result.now c.self.invariant c.as_slice.ensures.value c.in-Some.ensures.found c.index_mut.ensures.value in
    omega (arith, ap length (own-items key ss n c.in-Some.slot c.index_mut.result.now a), ap (λ v. number_of key n v.items) c.self.view_is, c.requires)

pub invariant_of-self : goal.invariant_of-self
invariant_of-self g c =
    let n = c.args.number in
    let key = g.R.Keyed.key_of in
    let ss = c.self.inside.slots.items in
    let a = at key ss c.as_slice.result.now n c.in-Some.slot c.index_mut.result.now c.self.invariant c.as_slice.ensures.value c.in-Some.ensures.found c.index_mut.ensures.value in
    set-slots key ss n c.in-Some.slot c.index_mut.result.now a c.remove.new.self c.remove.ensures.number (left-mine key ss n c.in-Some.slot c.index_mut.result.now a c.remove.new.self c.args.place c.remove.result c.remove.ensures.back).0

pub returns-clause-row : goal.returns-clause-row
returns-clause-row g c =
    let n = c.args.number in
    let key = g.R.Keyed.key_of in
    let ss = c.self.inside.slots.items in
    let a = at key ss c.as_slice.result.now n c.in-Some.slot c.index_mut.result.now c.self.invariant c.as_slice.ensures.value c.in-Some.ensures.found c.index_mut.ensures.value in
    c.remove.ensures.row ∙ ap (λ rs. slice_get rs c.args.place) (sym (own-items key ss n c.in-Some.slot c.index_mut.result.now a) ∙ ap (λ v. rows_of key n v.items) c.self.view_is)

pub returns-clause-number : goal.returns-clause-number
returns-clause-number g c =
    let n = c.args.number in
    let key = g.R.Keyed.key_of in
    let ss = c.self.inside.slots.items in
    let a = at key ss c.as_slice.result.now n c.in-Some.slot c.index_mut.result.now c.self.invariant c.as_slice.ensures.value c.in-Some.ensures.found c.index_mut.ensures.value in
    eqb-true (key c.remove.result) n (left-mine key ss n c.in-Some.slot c.index_mut.result.now a c.remove.new.self c.args.place c.remove.result c.remove.ensures.back).1

pub returns-clause-back : goal.returns-clause-back
returns-clause-back g c =
    let n = c.args.number in
    let key = g.R.Keyed.key_of in
    let ss = c.self.inside.slots.items in
    let a = at key ss c.as_slice.result.now n c.in-Some.slot c.index_mut.result.now c.self.invariant c.as_slice.ensures.value c.in-Some.ensures.found c.index_mut.ensures.value in
    let mine = eqb-true (key c.remove.result) n (left-mine key ss n c.in-Some.slot c.index_mut.result.now a c.remove.new.self c.args.place c.remove.result c.remove.ensures.back).1 in
    sym (ap (λ v. v.items) c.self.view_is) ∙ back key ss n c.in-Some.slot c.index_mut.result.now a c.remove.new.self c.args.place c.remove.result mine c.remove.ensures.within c.remove.ensures.back

pub returns-clause-within : goal.returns-clause-within
returns-clause-within g c =
    let n = c.args.number in
    let key = g.R.Keyed.key_of in
    let ss = c.self.inside.slots.items in
    let a = at key ss c.as_slice.result.now n c.in-Some.slot c.index_mut.result.now c.self.invariant c.as_slice.ensures.value c.in-Some.ensures.found c.index_mut.ensures.value in
    let own = (left-mine key ss n c.in-Some.slot c.index_mut.result.now a c.remove.new.self c.args.place c.remove.result c.remove.ensures.back).0 in
    omega (arith, c.remove.ensures.within, ap length (set-own key ss n c.in-Some.slot c.index_mut.result.now a c.remove.new.self own))

pub returns-clause-rooms : goal.returns-clause-rooms
returns-clause-rooms g c =
    let n = c.args.number in
    let key = g.R.Keyed.key_of in
    let ss = c.self.inside.slots.items in
    let a = at key ss c.as_slice.result.now n c.in-Some.slot c.index_mut.result.now c.self.invariant c.as_slice.ensures.value c.in-Some.ensures.found c.index_mut.ensures.value in
    set-rooms key ss n c.in-Some.slot c.index_mut.result.now a c.remove.new.self c.remove.ensures.number c.remove.ensures.capacity ∙ ap (λ v. v.rooms) c.self.view_is

pub returns-clause-room : goal.returns-clause-room
returns-clause-room g c =
    let n = c.args.number in
    let key = g.R.Keyed.key_of in
    let ss = c.self.inside.slots.items in
    let a = at key ss c.as_slice.result.now n c.in-Some.slot c.index_mut.result.now c.self.invariant c.as_slice.ensures.value c.in-Some.ensures.found c.index_mut.ensures.value in
    omega (
      arith,
      c.remove.ensures.room,
      ap length (own-items key ss n c.in-Some.slot c.index_mut.result.now a),
      own-room key ss n c.in-Some.slot c.index_mut.result.now a,
      ap (λ v. number_of key n v.items) c.self.view_is,
      ap (λ v. capacity_of v.rooms n) c.self.view_is,
    )
