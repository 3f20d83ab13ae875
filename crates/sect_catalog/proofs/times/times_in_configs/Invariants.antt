-- the count of the ids so far
use Rattle.std.proofs.Common.{◌≡◌, take}
use Rattle.std.specs.Prelude.{flat_map}
use Rattle.sect_catalog.specs.Fault.{config_ids}
use Rattle.sect_catalog.specs.Search.{times_in}
use Rattle.sect_catalog.proofs.times.times_in_configs.Given as goal

abbrev pub invariant-loop-config : goal.invariant-loop-config
invariant-loop-config l = l.times ≡ times_in (flat_map config_ids (take l.config-index l.configs)) l.id
