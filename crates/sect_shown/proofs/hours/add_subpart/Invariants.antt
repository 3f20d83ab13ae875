-- the hours of those so far, behind the others
use Rattle.std.proofs.Common.{◌≡◌, ◌++◌, take, flat_map}
use Rattle.sect_shown.specs.Hours.{section_hours}
use Rattle.sect_shown.proofs.hours.add_subpart.Given as goal

abbrev pub invariant-loop-section : goal.invariant-loop-section
invariant-loop-section l = l.hours.items ≡ l.initial.hours.items ++ flat_map (section_hours l.held) (take l.section-index l.row.sections)
