-- the hours of those so far, behind the others
use Rattle.std.proofs.Common.{◌≡◌, ◌++◌, take, flat_map}
use Rattle.sect_shown.specs.Hours.{subpart_hours}
use Rattle.sect_shown.proofs.hours.add_config.Given as goal

abbrev pub invariant-loop-subpart : goal.invariant-loop-subpart
invariant-loop-subpart l = l.hours.items ≡ l.initial.hours.items ++ flat_map (subpart_hours l.held) (take l.subpart-index l.row.subparts)
