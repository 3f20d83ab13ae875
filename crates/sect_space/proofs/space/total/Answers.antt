-- one configuration more
use Rattle.std.proofs.Common.{◌∙◌, sym, ap, arith, Some}
use Rattle.sect_catalog.specs.Catalogue.{places}
use Rattle.sect_space.proofs.Sums.{places-more, places-none}
use Rattle.sect_space.proofs.space.total.Goals as goal

pub returns-in-Unlimited-clause-value : goal.returns-in-Unlimited-clause-value
returns-in-Unlimited-clause-value c =
    sym (places-none c.args.configs.now c.loop-config.config-index c.config-item.result c.loop-config-test.true c.config-item.is (ap places c.in-Unlimited.is))

pub loop-config-preserved : goal.loop-config-preserved
loop-config-preserved c = (
  places-more c.args.configs.now c.loop-config.config-index c.config-item.result c.loop-config.sum c.from-sum.result c.loop-config-test.true c.config-item.is
      c.loop-config.invariant.0 (ap places c.in-Places.is ∙ ap Some (sym c.from-sum.ensures)),
  omega (arith, c.loop-config.invariant.1),
)
