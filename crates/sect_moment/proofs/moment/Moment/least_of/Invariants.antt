-- the least so far
use Rattle.std.proofs.Common.{◌≡◌, take}
use Rattle.std.specs.Prelude.{map, filter}
use Rattle.sect_base.specs.Pattern.{lists_overlap}
use Rattle.sect_model.specs.World.{meetings_of}
use Rattle.sect_model.specs.Rules.{least}
use Rattle.sect_moment.specs.Overlapped.{lesser_of}
use Rattle.sect_moment.proofs.moment.Moment.least_of.Given as goal

abbrev pub invariant-loop-section : goal.invariant-loop-section
invariant-loop-section l = l.least ≡ lesser_of l.fn.so_far (least (map (λ s. s.0) (filter (λ s. lists_overlap l.meetings (meetings_of l.self.at s)) (take l.section-index l.others))))
