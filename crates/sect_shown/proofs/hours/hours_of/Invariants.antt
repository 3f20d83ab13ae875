-- the hours of those so far, behind the others
use Rattle.std.proofs.Common.{◌≡◌, take, flat_map}
use Rattle.sect_shown.specs.Hours.{offering_hours}
use Rattle.sect_shown.proofs.hours.hours_of.Given as goal

abbrev pub invariant-loop-row : goal.invariant-loop-row
invariant-loop-row l = l.hours.items ≡ flat_map (offering_hours l.held) (take l.row-index l.rows)
