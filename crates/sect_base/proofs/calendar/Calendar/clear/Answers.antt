-- The pairs of each word are free, or one is taken.
use Rattle.std.specs.Prelude.{refl}
use Rattle.std.proofs.Common.{arith}
use Rattle.sect_base.proofs.CalendarLemmas.{AreSlotsOf, clear_word, clear_all}
use Rattle.sect_base.proofs.ClearLemmas.{clear-no_overlap}
use Rattle.sect_base.proofs.calendar.Calendar.clear.Goals as goal

pub loop-word-preserved : goal.loop-word-preserved
loop-word-preserved c =
    let bits : AreSlotsOf c.args.m.now c.loop-word.word c.slots_of.result = rw c.start-start.ensures.start at (rw c.slots.ensures.slots at c.slots_of.ensures) in
    clear_word c.args.self.now c.args.m.now c.loop-word.word c.slots_of.result c.days.ensures.meeting bits c.loop-word.invariant
    (rw c.days.ensures.days at (rw c.from-days.ensures at (c.is_free.ensures.0 c.if-not-is_free.false)))

pub returns-clause-clear : goal.returns-clause-clear
returns-clause-clear c = (
  λ _. clear_all c.args.self.now c.args.m.now c.loop-word.word (omega (arith, c.loop-word-test.false, c.start-start.ensures.start, c.slots.ensures.slots)) c.loop-word.invariant,
  λ _. refl,
)

pub returns-clause-no_overlap : goal.returns-clause-no_overlap
returns-clause-no_overlap c = λ _ other has.
    clear-no_overlap c.args.self.now c.args.m.now other
    (clear_all c.args.self.now c.args.m.now c.loop-word.word (omega (arith, c.loop-word-test.false, c.start-start.ensures.start, c.slots.ensures.slots)) c.loop-word.invariant) has
