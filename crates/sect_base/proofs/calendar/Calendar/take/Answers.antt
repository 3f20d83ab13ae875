-- The word is written on one day more, or that day isn't named.
use Rattle.std.proofs.Common.{arith, ◌+◌, sym, ◌∙◌, subst}
use Rattle.sect_base.proofs.CalendarLemmas.{TookOn, took_more, took_same}
use Rattle.sect_base.proofs.calendar.Calendar.take.Goals as goal
use Rattle.sect_base.proofs.calendar.Calendar.take.Goals.{then-is_bit_set, else-is_bit_set}

pub loop-day-preserved : goal.loop-day-preserved
loop-day-preserved c =
    let old = c.self.inside.words in
    let now = c.loop-day.self-inside.words in
    elim c.if-is_bit_set.branch [
      | then-is_bit_set w ↦ subst (λ v. TookOn old v.words c.args.days c.args.word c.args.slots (c.loop-day.day + 1)) (sym w.self-inside-is)
          (rw w.word_at.ensures
          (took_more old now c.args.days c.args.word c.args.slots c.loop-day.day c.loop-day.invariant
          (omega (arith, c.self.told, c.loop-day.invariant.whole, c.requires, c.loop-day-test.true)) c.requires (sym c.is_bit_set.ensures ∙ w.if-is_bit_set.true)))
      | else-is_bit_set w ↦ subst (λ v. TookOn old v.words c.args.days c.args.word c.args.slots (c.loop-day.day + 1)) (sym w.self-inside-is)
          (took_same old now c.args.days c.args.word c.args.slots c.loop-day.day c.loop-day.invariant (sym c.is_bit_set.ensures ∙ w.if-is_bit_set.false))
    ]
