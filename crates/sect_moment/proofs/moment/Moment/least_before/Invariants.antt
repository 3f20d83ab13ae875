-- the least so far
use Rattle.std.proofs.Common.{◌≡◌, take}
use Rattle.std.specs.Prelude.{map, filter}
use Rattle.sect_base.specs.Pattern.{lists_overlap}
use Rattle.sect_model.specs.World.{meetings_of}
use Rattle.sect_model.specs.Rules.{least}
use Rattle.sect_moment.proofs.moment.Moment.least_before.Given as goal

abbrev pub invariant-loop-section : goal.invariant-loop-section
invariant-loop-section l = l.least ≡ least (map (λ s. s.0) (filter (λ s. lists_overlap (meetings_of l.self.at s) l.meetings) (take l.section-index l.others)))
