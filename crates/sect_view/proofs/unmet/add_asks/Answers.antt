-- One request more.
use Rattle.std.proofs.Common.{◌+◌, arith, refl}
use Rattle.sect_view.proofs.AskLemmas.{asks-more}
use Rattle.sect_view.proofs.unmet.add_asks.Goals as goal

pub loop-ask-preserved : goal.loop-ask-preserved
loop-ask-preserved c = record {
  views = asks-more c.args.world.now.world c.args.student c.args.asks.now c.loop-ask.ask-index (c.loop-ask.ask-index + 1) c.loop-ask.rank c.ask-item.result c.args.views.now.items c.loop-ask.views.items
      c.add_ask.new.views.items c.loop-ask-test.true c.ask-item.is refl c.loop-ask.invariant.rank c.loop-ask.invariant.views c.in_ok-add_ask.ensures;
  rank = omega arith;
}
