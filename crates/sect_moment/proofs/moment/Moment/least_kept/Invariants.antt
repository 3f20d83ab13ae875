-- the least so far
use Rattle.std.proofs.Common.{◌≡◌, cond, [], take}
use Rattle.std.specs.Prelude.{flat_map}
use Rattle.sect_model.specs.Rules.{least}
use Rattle.sect_moment.specs.Moment.{is_given}
use Rattle.sect_moment.specs.Overlapped.{overlapped}
use Rattle.sect_moment.proofs.moment.Moment.least_kept.Given as goal

abbrev pub invariant-loop-e : goal.invariant-loop-e
invariant-loop-e l = l.least ≡ least (flat_map (λ e. cond (is_given l.give e.choice.course) [] (overlapped l.self.at l.permitted l.meetings e.choice)) (take l.e-index l.held))
