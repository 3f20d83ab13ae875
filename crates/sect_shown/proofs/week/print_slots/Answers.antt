-- One slot more, and no slot left.
use Rattle.std.proofs.Common.{arith}
use Rattle.std.proofs.lemmas.Grind.{common_steps}
use Rattle.sect_shown.proofs.WeekLemmas.{slots-more, slots-all}
use Rattle.sect_shown.proofs.week.print_slots.Goals as goal

pub loop-slot-preserved : goal.loop-slot-preserved
loop-slot-preserved c = record {
  whole = slots-more c.args.hours.now c.loop-slot.slot c.args.slots c.args.into.now.items c.loop-slot.into.items c.print_slot.new.into.items c.loop-slot-test.true c.in_ok-print_slot.ensures.text c.loop-slot.invariant.whole;
  front = grind (arith, common_steps);
}

pub returns-clause-text : goal.returns-clause-text
returns-clause-text c = slots-all c.args.hours.now c.loop-slot.slot c.args.slots c.args.into.now.items c.loop-slot.into.items c.loop-slot-test.false c.loop-slot.invariant.whole
