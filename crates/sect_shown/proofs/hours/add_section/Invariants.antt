-- the hours of those so far, behind the others
use Rattle.std.proofs.Common.{◌≡◌, ◌++◌, take, flat_map}
use Rattle.sect_shown.specs.Hours.{choice_hours}
use Rattle.sect_shown.proofs.hours.add_section.Given as goal

abbrev pub invariant-loop-choice : goal.invariant-loop-choice
invariant-loop-choice l = l.hours.items ≡ l.initial.hours.items ++ flat_map (choice_hours l.row) (take l.choice-index l.held)
