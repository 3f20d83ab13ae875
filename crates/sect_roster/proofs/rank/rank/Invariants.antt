-- the rank lies between the two ends
use Rattle.std.proofs.Common.{◌-◌, ◌≤◌, length}
use Rattle.sect_people.specs.Index.{rank as rank_of}
use Rattle.sect_roster.proofs.rank.rank.Given as goal

abbrev pub invariant-loop-low : goal.invariant-loop-low
invariant-loop-low g l =
    (l.low ≤ rank_of g.T.Keyed.key_of l.bound l.items) × (rank_of g.T.Keyed.key_of l.bound l.items ≤ l.high) × (l.high ≤ length l.items)

abbrev pub decreases-loop-low : goal.decreases-loop-low
decreases-loop-low g l = l.high - l.low
