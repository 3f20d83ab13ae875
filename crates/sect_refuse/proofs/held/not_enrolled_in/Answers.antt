-- Course by course.
use Rattle.std.proofs.Common.{◌∙◌, ◌+◌, arith, sym, true, false}
use Rattle.sect_refuse.proofs.HeldLemmas.{given-at}
use Rattle.sect_refuse.proofs.held.not_enrolled_in.Goals as goal

pub returns-then-is_wrong : goal.returns-then-is_wrong
returns-then-is_wrong c =
    given-at c.args.world.now.world c.args.student c.args.given.now c.loop-place.place (c.loop-place.place + 1) (record { 0 = 0 }) (omega arith) c.loop-place-test.true true c.if-is_wrong.ensures
    ∙ sym c.loop-place.invariant

pub loop-place-preserved : goal.loop-place-preserved
loop-place-preserved c =
    c.loop-place.invariant
    ∙ sym (given-at c.args.world.now.world c.args.student c.args.given.now c.loop-place.place (c.loop-place.place + 1) (record { 0 = 0 }) (omega arith) c.loop-place-test.true false c.if-is_wrong.ensures)
