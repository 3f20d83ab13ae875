-- the rank lies between the two ends
use Rattle.std.proofs.Common.{◌-◌, ◌≤◌, length}
use Rattle.sect_people.specs.Index.{rank as rank_of}
use Rattle.sect_people.proofs.rank.searched.Given as goal

abbrev pub invariant-loop-low : goal.invariant-loop-low
invariant-loop-low l =
    (l.low ≤ rank_of (λ d. d.0) l.id.0 l.ids) × (rank_of (λ d. d.0) l.id.0 l.ids ≤ l.high) × (l.high ≤ length l.ids)

abbrev pub decreases-loop-low : goal.decreases-loop-low
decreases-loop-low l = l.high - l.low
