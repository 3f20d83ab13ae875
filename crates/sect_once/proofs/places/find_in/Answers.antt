use Rattle.std.proofs.Common.{◌≡◌, ◌-◌, ◌∙◌, ap, get_or, inl, inr, sym}
use Rattle.sect_once.specs.Places.{slot_for}
use Rattle.sect_once.proofs.Slots.{each-next, none_met, slot_is}
use Rattle.sect_once.proofs.places.find_in.Goals as goal

pub returns-then-behind-eq0 : goal.returns-then-behind-eq0
returns-then-behind-eq0 c = sym (none_met c.args.keys.now c.args.slots.now c.args.key c.loop-tries.tries c.requires c.loop-tries.invariant
    (inl (slot_is c.args.slots.now c.args.key c.start-start.result c.loop-tries.tries c.tried.result c.start-start.ensures.start c.tried.ensures.slot ∙ c.if-behind-eq0.true)))

pub loop-tries-preserved : goal.loop-tries-preserved
loop-tries-preserved c = each-next (λ d. get_or c.args.keys.now (slot_for c.args.slots.now c.args.key d - 1) 0 ≡ c.args.key → ⊥) c.loop-tries.tries c.loop-tries.invariant
    (λ e. c.if-keys-place.false (ap (λ s. get_or c.args.keys.now (s - 1) 0) (sym (slot_is c.args.slots.now c.args.key c.start-start.result c.loop-tries.tries c.tried.result c.start-start.ensures.start c.tried.ensures.slot)) ∙ e))

pub returns : goal.returns
returns c = sym (none_met c.args.keys.now c.args.slots.now c.args.key c.loop-tries.tries c.requires c.loop-tries.invariant (inr c.loop-tries-test.false))
