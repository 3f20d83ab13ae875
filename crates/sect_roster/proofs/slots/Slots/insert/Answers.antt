-- One more in the slot of its number.
use Rattle.std.proofs.Common.{◌∙◌, ◌==◌, ap, sym, arith, length}
use Rattle.std.specs.List.{list_any}
use Rattle.sect_model.specs.World.{put_behind}
use Rattle.sect_roster.specs.Slots.{number_of, capacity_of}
use Rattle.sect_roster.proofs.Changed.{at, own-items, own-room, put, put-own, set-slots, set-rooms}
use Rattle.sect_roster.proofs.SlotLemmas.{absent-capacity}
use Rattle.sect_roster.proofs.slots.Slots.insert.Goals as goal

pub unreachable-requires : goal.unreachable-requires
unreachable-requires g c =
    let n = c.key.result in
    let none = absent-capacity n c.self.inside.slots.items (ap (λ ts. list_any (λ s. s.number == n) ts) (sym c.as_slice.ensures.value) ∙ c.in-None.ensures.none) in
    omega (arith, none, ap (λ v. capacity_of v.rooms n) c.self.view_is, ap (capacity_of c.args.self.now.rooms) c.key.ensures, c.requires)

pub insert-requires : goal.insert-requires
insert-requires g c =
    let n = c.key.result in
    let key = g.R.Keyed.key_of in
    let ss = c.self.inside.slots.items in
    let a = at key ss c.as_slice.result.now n c.in-Some.place c.index_mut.result.now c.self.invariant c.as_slice.ensures.value c.in-Some.ensures.found c.index_mut.ensures.value in
    omega (
      arith,
      ap length (own-items key ss n c.in-Some.place c.index_mut.result.now a),
      own-room key ss n c.in-Some.place c.index_mut.result.now a,
      ap (λ v. number_of key n v.items) c.self.view_is,
      ap (λ v. capacity_of v.rooms n) c.self.view_is,
      ap (λ m. number_of key m c.args.self.now.items) c.key.ensures,
      ap (capacity_of c.args.self.now.rooms) c.key.ensures,
      c.requires,
    )

pub invariant_of-self : goal.invariant_of-self
invariant_of-self g c =
    let n = c.key.result in
    let key = g.R.Keyed.key_of in
    let ss = c.self.inside.slots.items in
    let a = at key ss c.as_slice.result.now n c.in-Some.place c.index_mut.result.now c.self.invariant c.as_slice.ensures.value c.in-Some.ensures.found c.index_mut.ensures.value in
    set-slots key ss n c.in-Some.place c.index_mut.result.now a c.insert.new.self (ap (λ t. t.number) c.insert.ensures)
    (put-own key ss n c.in-Some.place c.index_mut.result.now a c.insert.new.self c.args.row (sym c.key.ensures) (ap (λ t. t.items) c.insert.ensures))

pub returns : goal.returns
returns g c =
    let n = c.key.result in
    let key = g.R.Keyed.key_of in
    let ss = c.self.inside.slots.items in
    let a = at key ss c.as_slice.result.now n c.in-Some.place c.index_mut.result.now c.self.invariant c.as_slice.ensures.value c.in-Some.ensures.found c.index_mut.ensures.value in
    let items = put key ss n c.in-Some.place c.index_mut.result.now a c.insert.new.self c.args.row (sym c.key.ensures) (ap (λ t. t.items) c.insert.ensures) in
    let rooms = set-rooms key ss n c.in-Some.place c.index_mut.result.now a c.insert.new.self (ap (λ t. t.number) c.insert.ensures) (ap (λ t. t.capacity) c.insert.ensures) in
    λ i. record {
      items = (items ∙ ap (λ v. put_behind key c.args.row v.items) c.self.view_is) i;
      rooms = (rooms ∙ ap (λ v. v.rooms) c.self.view_is) i;
    }
