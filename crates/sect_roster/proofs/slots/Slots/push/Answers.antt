-- One more in the slot of its number, whose room may grow.
use Rattle.std.proofs.Common.{◌≡◌, ◌∙◌, ◌==◌, ◌≤◌, ap, sym, subst, arith, length, refl, slice_set}
use Rattle.std.specs.List.{list_any}
use Rattle.std.proofs.lemmas.Bool.{true_from_ne_false, false≢true}
use Rattle.sect_model.specs.World.{put_behind}
use Rattle.sect_roster.specs.Slots.{number_of, capacity_of, capacity_in}
use Rattle.sect_roster.proofs.SlotLemmas.{absent-capacity}
use Rattle.sect_roster.proofs.Changed.{on-ok, on-err, at, own-items, own-room, put, pushed-own, set-same, set-slots, set-grows}
use Rattle.sect_roster.proofs.slots.Slots.push.Goals as goal

pub returns-in_err-place-clause-enough : goal.returns-in_err-place-clause-enough
returns-in_err-place-clause-enough g c =
    let n = c.key.result in
    let key = g.R.Keyed.key_of in
    let ss = c.self.inside.slots.items in
    λ h. absurd (false≢true (c.in_err-place.ensures.known (true_from_ne_false (list_any (λ s. s.number == n) ss) (λ none.
    omega (arith, h, absent-capacity n ss none, ap (λ v. capacity_of v.rooms n) c.self.view_is, ap (capacity_of c.args.self.now.rooms) c.key.ensures)))))

pub invariant_of-self-2 : goal.invariant_of-self-2
invariant_of-self-2 g c =
    let n = c.key.result in
    let key = g.R.Keyed.key_of in
    let ss = c.slot_for.new.slots.items in
    let a = at key ss ss n c.in_ok-place.place c.index_mut.result.now c.slot_for.ensures.slots refl c.in_ok-place.ensures.place c.index_mut.ensures.value in
    set-slots key ss n c.in_ok-place.place c.index_mut.result.now a c.push.new.self c.push.ensures.number
    (pushed-own key ss n c.in_ok-place.place c.index_mut.result.now a c.push.result c.push.new.self c.args.row (sym c.key.ensures) c.push.ensures.ok c.push.ensures.err)

pub returns-clause-ok : goal.returns-clause-ok
returns-clause-ok g c =
    let n = c.key.result in
    let key = g.R.Keyed.key_of in
    let ss = c.slot_for.new.slots.items in
    let a = at key ss ss n c.in_ok-place.place c.index_mut.result.now c.slot_for.ensures.slots refl c.in_ok-place.ensures.place c.index_mut.ensures.value in
    let held = c.slot_for.ensures.held ∙ ap (λ v. v.items) c.self.view_is in
    on-ok c.push.result
    (λ is. put key ss n c.in_ok-place.place c.index_mut.result.now a c.push.new.self c.args.row (sym c.key.ensures) is ∙ ap (put_behind key c.args.row) held)
    c.push.ensures.ok

pub returns-clause-err : goal.returns-clause-err
returns-clause-err g c =
    let n = c.key.result in
    let key = g.R.Keyed.key_of in
    let ss = c.slot_for.new.slots.items in
    let a = at key ss ss n c.in_ok-place.place c.index_mut.result.now c.slot_for.ensures.slots refl c.in_ok-place.ensures.place c.index_mut.ensures.value in
    let held = c.slot_for.ensures.held ∙ ap (λ v. v.items) c.self.view_is in
    on-err c.push.result (λ same. set-same key ss n c.in_ok-place.place c.index_mut.result.now a c.push.new.self same ∙ held) c.push.ensures.err

pub returns-clause-grows : goal.returns-clause-grows
returns-clause-grows g c =
    let n = c.key.result in
    let key = g.R.Keyed.key_of in
    let ss = c.slot_for.new.slots.items in
    let a = at key ss ss n c.in_ok-place.place c.index_mut.result.now c.slot_for.ensures.slots refl c.in_ok-place.ensures.place c.index_mut.ensures.value in
    λ m. subst (λ k. k ≤ capacity_in (slice_set ss c.in_ok-place.place c.push.new.self) m) (c.slot_for.ensures.capacity m ∙ ap (λ v. capacity_of v.rooms m) c.self.view_is)
    (set-grows key ss n c.in_ok-place.place c.index_mut.result.now a c.push.new.self c.push.ensures.number c.push.ensures.grows m)

pub returns-clause-enough : goal.returns-clause-enough
returns-clause-enough g c =
    let n = c.key.result in
    let key = g.R.Keyed.key_of in
    let ss = c.slot_for.new.slots.items in
    let a = at key ss ss n c.in_ok-place.place c.index_mut.result.now c.slot_for.ensures.slots refl c.in_ok-place.ensures.place c.index_mut.ensures.value in
    let held : number_of key n c.args.self.now.items ≡ length c.index_mut.result.now.items =
    ap (λ v. number_of key n v.items) (sym c.self.view_is) ∙ ap (number_of key n) (sym c.slot_for.ensures.held) ∙ ap length (own-items key ss n c.in_ok-place.place c.index_mut.result.now a) in
    let room : capacity_of c.args.self.now.rooms n ≡ c.index_mut.result.now.capacity =
    ap (λ v. capacity_of v.rooms n) (sym c.self.view_is) ∙ sym (c.slot_for.ensures.capacity n) ∙ own-room key ss n c.in_ok-place.place c.index_mut.result.now a in
    λ h. c.push.ensures.enough (omega (arith, h, held, room, ap (λ m. number_of key m c.args.self.now.items) c.key.ensures, ap (capacity_of c.args.self.now.rooms) c.key.ensures))
