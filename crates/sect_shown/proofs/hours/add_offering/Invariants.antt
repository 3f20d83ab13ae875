-- the hours of those so far, behind the others
use Rattle.std.proofs.Common.{◌≡◌, ◌++◌, take, flat_map}
use Rattle.sect_shown.specs.Hours.{config_hours}
use Rattle.sect_shown.proofs.hours.add_offering.Given as goal

abbrev pub invariant-loop-config : goal.invariant-loop-config
invariant-loop-config l = l.hours.items ≡ l.initial.hours.items ++ flat_map (config_hours l.held) (take l.config-index l.row.configs)
