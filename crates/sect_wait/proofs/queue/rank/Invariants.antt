-- the rank lies between the two ends
use Rattle.std.proofs.Common.{◌-◌, ◌≤◌, length}
use Rattle.sect_people.specs.Index.{rank as rank_of}
use Rattle.sect_wait.proofs.queue.rank.Given as goal

abbrev pub invariant-loop-low : goal.invariant-loop-low
invariant-loop-low l =
    (l.low ≤ rank_of (λ e. e.ticket) l.ticket l.entries) × (rank_of (λ e. e.ticket) l.ticket l.entries ≤ l.high) × (l.high ≤ length l.entries)

abbrev pub decreases-loop-low : goal.decreases-loop-low
decreases-loop-low l = l.high - l.low
