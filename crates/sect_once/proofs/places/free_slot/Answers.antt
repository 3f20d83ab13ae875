use Rattle.std.proofs.Common.{◌≡◌, ◌∙◌, ap, arith, length, sym}
use Rattle.sect_once.specs.Places.{slot_for, tried}
use Rattle.sect_once.proofs.Slots.{each-next, not_all, slot_is}
use Rattle.sect_once.proofs.places.free_slot.Goals as goal

pub returns-then-slots-at-eq0 : goal.returns-then-slots-at-eq0
returns-then-slots-at-eq0 c = record {
  tries = c.loop-tries.tries;
  within = c.loop-tries-test.true;
  there = c.tried-at.ensures.slot ∙ ap (λ s. tried (length c.args.slots.now) s c.loop-tries.tries) c.start-start.ensures.start;
  inside = c.tried-at.ensures.inside;
  free = slot_is c.args.slots.now c.args.key c.start-start.result c.loop-tries.tries c.tried-at.result c.start-start.ensures.start c.tried-at.ensures.slot ∙ c.if-slots-at-eq0.true;
  taken = c.loop-tries.invariant;
}

pub loop-tries-preserved : goal.loop-tries-preserved
loop-tries-preserved c = each-next (λ d. slot_for c.args.slots.now c.args.key d ≡ 0 → ⊥) c.loop-tries.tries c.loop-tries.invariant
    (λ e. c.if-slots-at-eq0.false (sym (slot_is c.args.slots.now c.args.key c.start-start.result c.loop-tries.tries c.tried-at.result c.start-start.ensures.start c.tried-at.ensures.slot) ∙ e))

pub unreachable-requires : goal.unreachable-requires
unreachable-requires c = not_all c.args.slots.now c.args.key c.start-start.result c.start-start.ensures.start c.start-start.ensures.inside c.requires.room
    (λ d lt. c.loop-tries.invariant d (omega (arith, lt, c.loop-tries-test.false)))
