use Rattle.std.proofs.Common.{◌≡◌, ◌∙◌, [], ◌+◌, arith, replicate, subst, sym}
use Rattle.std.proofs.lemmas.List.{length-set}
use Rattle.sect_once.specs.Places.{IsTable}
use Rattle.sect_once.proofs.Slots.{filled, table-next, table-none, table-room}
use Rattle.sect_once.proofs.places.table_of.Goals as goal

pub free_slot-at-requires-clause-room : goal.free_slot-at-requires-clause-room
free_slot-at-requires-clause-room c = rw c.as_slice.ensures.value (table-room c.args.keys.now c.loop-place.slots.items c.loop-place.place c.args.count c.loop-place.invariant.table c.loop-place.invariant.same c.requires.room)

pub loop-place-init : goal.loop-place-init
loop-place-init c = record {
  table = let items : c.resize.new.self.items ≡ replicate c.args.count 0 = c.in_ok-resize.ensures.items ∙ filled c.args.count _ c.new-slots.result.items c.new-slots.ensures.items c.new-slots.ensures.len in
      subst (IsTable []) (sym items) (table-none c.args.count);
  same = omega (arith, c.in_ok-resize.ensures.len, c.resize.new.self.ok.0);
}

pub loop-place-preserved : goal.loop-place-preserved
loop-place-preserved c = record {
  table = table-next c.args.keys.now c.loop-place.slots.items c.loop-place.place c.free_slot-at.result c.loop-place-test.true c.loop-place.invariant.table (rw c.as_slice.ensures.value at c.free_slot-at.ensures);
  same = length-set c.loop-place.slots.items c.free_slot-at.result (c.loop-place.place + 1) ∙ c.loop-place.invariant.same;
}
