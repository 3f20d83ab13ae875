-- the least so far
use Rattle.std.proofs.Common.{◌≡◌, take}
use Rattle.std.specs.Prelude.{flat_map}
use Rattle.sect_model.specs.Rules.{least}
use Rattle.sect_moment.specs.Overlapped.{overlapped}
use Rattle.sect_moment.proofs.moment.Moment.least_made.Given as goal

abbrev pub invariant-loop-choice : goal.invariant-loop-choice
invariant-loop-choice l = l.least ≡ least (flat_map (overlapped l.self.at l.permitted l.meetings) (take l.choice-index l.done))
