-- the ids so far are new
use Rattle.std.proofs.Common.{◌≡◌, find, flat_map, drop}
use Rattle.std.specs.Option.{option_map}
use Rattle.sect_catalog.specs.Fault.{config_ids}
use Rattle.sect_catalog.specs.Place.{is_taken}
use Rattle.sect_catalog.proofs.known.known_in_configs.Given as goal

abbrev pub invariant-loop-config : goal.invariant-loop-config
invariant-loop-config l =
    option_map (λ id. id.1) (find (is_taken l.index l.row) (flat_map config_ids l.configs)) ≡ option_map (λ id. id.1) (find (is_taken l.index l.row) (flat_map config_ids (drop l.config-index l.configs)))
