-- One slot more, and the slots behind the last.
use Rattle.std.proofs.Common.{arith}
use Rattle.sect_base.proofs.KeepLemmas.{keep-more, keep-end}
use Rattle.sect_base.proofs.slots.keep.Goals as goal

pub slots-preserved : goal.slots-preserved
slots-preserved g c =
    keep-more (g.T.Test.passes c.args.test.now) c.args.slots.now c.slots.slots c.slots.place c.index-slots-place.result c.kept.result
    (omega (arith, c.slots-test.true, c.slots.auto.slots)) c.index-slots-place.is c.kept.ensures c.slots.invariant

pub returns : goal.returns
returns g c =
    keep-end (g.T.Test.passes c.args.test.now) c.args.slots.now c.slots.slots c.slots.place (omega (arith, c.slots-test.false)) c.slots.invariant
