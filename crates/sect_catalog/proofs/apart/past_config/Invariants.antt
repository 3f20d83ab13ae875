-- the ids so far rise, and the floors are those behind them
use Rattle.std.proofs.Common.{◌≡◌, drop}
use Rattle.std.specs.Prelude.{flat_map}
use Rattle.sect_catalog.specs.Fault.{subpart_ids, config_ids}
use Rattle.sect_catalog.specs.Apart.{past_all}
use Rattle.sect_catalog.proofs.apart.past_config.Given as goal

abbrev pub invariant-loop-subpart : goal.invariant-loop-subpart
invariant-loop-subpart l = past_all l.fn.floors (config_ids l.config) ≡ past_all l.floors (flat_map subpart_ids (drop l.subpart-index l.subpart-items))
