-- the ids so far rise, and the floors are those behind them
use Rattle.std.proofs.Common.{◌≡◌, drop}
use Rattle.std.specs.Prelude.{flat_map}
use Rattle.sect_catalog.specs.Fault.{config_ids}
use Rattle.sect_catalog.specs.Apart.{past_all}
use Rattle.sect_catalog.proofs.apart.past_configs.Given as goal

abbrev pub invariant-loop-config : goal.invariant-loop-config
invariant-loop-config l = past_all l.fn.floors (flat_map config_ids l.configs) ≡ past_all l.floors (flat_map config_ids (drop l.config-index l.configs))
