-- Each day's word is free of the slots' bits, or has one of them.
use Rattle.std.specs.Prelude.{◌↔◌, ◌+◌, ◌*◌, IsTrue, true, false, refl}
use Rattle.std.proofs.Common.{get_or, sym, ◌∙◌}
use Rattle.std.proofs.lemmas.Bool.{both_ways}
use Rattle.sect_base.proofs.BitLemmas.{SharedBit}
use Rattle.sect_base.proofs.CalendarLemmas.{free_more, not_free}
use Rattle.sect_base.proofs.calendar.Calendar.is_free.Goals as goal
use Rattle.sect_base.proofs.calendar.Calendar.is_free.Goals.{else-is_bit_set-via-then-is_bit_set+else-share_bit, else-is_bit_set-via-else-is_bit_set}

pub returns-then-share_bit : goal.returns-then-share_bit
returns-then-share_bit c =
    let told : IsTrue true ↔ SharedBit (get_or c.self.inside.words (5 * c.loop-day.day + c.args.word) 0) c.args.slots =
    rw c.word_at.ensures at c.if-share_bit.ensures in (
      λ never. absurd (both_ways false refl never),
      λ free.
          absurd
          (not_free c.self.inside.words c.args.days c.args.word c.args.slots c.loop-day.day c.loop-day-test.true (sym c.is_bit_set.ensures ∙ c.if-is_bit_set.true)
          (told.0 refl) (rw (← c.self.view_is) at free)),
    )

pub loop-day-preserved : goal.loop-day-preserved
loop-day-preserved c =
    let more = free_more c.self.inside.words c.args.days c.args.word c.args.slots c.loop-day.day c.loop-day.invariant in
    elim c.else-is_bit_set.branch [
      | else-is_bit_set-via-then-is_bit_set+else-share_bit w ↦
          let told : IsTrue false ↔ SharedBit (get_or c.self.inside.words (5 * c.loop-day.day + c.args.word) 0) c.args.slots =
          rw w.word_at.ensures at w.if-share_bit.ensures in more (λ _ shares. both_ways false refl (told.1 shares))
      | else-is_bit_set-via-else-is_bit_set w ↦ more (λ on _. both_ways _ (sym c.is_bit_set.ensures ∙ w.if-is_bit_set.false) on)
    ]
