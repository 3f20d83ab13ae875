-- each value stays
use Rattle.sect_base.specs.Slots.{SlotsStay}
use Rattle.sect_base.proofs.slots.grow.Given as goal

abbrev pub invariant-slots : goal.invariant-slots
invariant-slots g l = SlotsStay l.initial.slots.items l.slots.items
