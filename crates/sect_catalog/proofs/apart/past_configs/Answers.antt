-- one configuration more
use Rattle.std.proofs.Common.{◌∙◌, flat_map}
use Rattle.sect_catalog.specs.Fault.{config_ids}
use Rattle.sect_catalog.specs.Apart.{past_all}
use Rattle.sect_catalog.proofs.ApartLemmas.{risen, stopped, past-parts}
use Rattle.sect_catalog.proofs.apart.past_configs.Goals as goal

pub returns-in_err-floors : goal.returns-in_err-floors
returns-in_err-floors c =
    c.from_residual.ensures
    ∙ stopped (λ f gs. past_all f (flat_map config_ids gs)) (λ f g. past_all f (config_ids g)) (past-parts config_ids)
    (past_all c.args.floors (flat_map config_ids c.args.configs.now)) c.past_config.result c.loop-config.floors c.args.configs.now c.loop-config.config-index c.config-item.result
    c.loop-config-test.true c.config-item.is c.loop-config.invariant c.past_config.ensures c.in_err-floors.was

pub loop-config-preserved : goal.loop-config-preserved
loop-config-preserved c =
    risen (λ f gs. past_all f (flat_map config_ids gs)) (λ f g. past_all f (config_ids g)) (past-parts config_ids)
    (past_all c.args.floors (flat_map config_ids c.args.configs.now)) c.past_config.result c.loop-config.floors _ c.args.configs.now c.loop-config.config-index c.config-item.result
    c.loop-config-test.true c.config-item.is c.loop-config.invariant c.past_config.ensures c.in_ok-floors.was
