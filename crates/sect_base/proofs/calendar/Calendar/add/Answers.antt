-- One word more is written, and behind the last one all pairs are set.
use Rattle.std.proofs.Common.{arith}
use Rattle.sect_base.proofs.CalendarLemmas.{AreSlotsOf, added_word, added}
use Rattle.sect_base.proofs.calendar.Calendar.add.Goals as goal

pub loop-word-preserved : goal.loop-word-preserved
loop-word-preserved c = λ d slot within.
    let bits : AreSlotsOf c.args.m.now c.loop-word.word c.slots_of.result = rw c.start-start.ensures.start at (rw c.slots.ensures.slots at c.slots_of.ensures) in
    added_word c.args.m.now _ _ _ c.loop-word.word c.slots_of.result d slot c.days.ensures.meeting bits (c.loop-word.invariant d slot within)
    (rw c.days.ensures.days at (rw c.from-days.ensures at (c.take.ensures d slot within)))

pub returns : goal.returns
returns c = λ d slot within.
    added c.args.m.now _ _ c.loop-word.word d slot (omega (arith, c.loop-word-test.false, c.start-start.ensures.start, c.slots.ensures.slots))
    (c.loop-word.invariant d slot within)
