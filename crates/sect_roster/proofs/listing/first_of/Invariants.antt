-- the first of the id is not before the place
use Rattle.std.proofs.Common.{◌≡◌, ◌≤◌, ◌+◌, ◌-◌, ◌==◌, length, drop}
use Rattle.std.specs.List.{position_or_len}
use Rattle.sect_roster.proofs.listing.first_of.Given as goal

abbrev pub invariant-loop-place : goal.invariant-loop-place
invariant-loop-place g l =
    (l.place ≤ length l.rows) × (position_or_len (λ r. g.R.Filed.id_of r == l.id) l.rows ≡ l.place + position_or_len (λ r. g.R.Filed.id_of r == l.id) (drop l.place l.rows))

abbrev pub decreases-loop-place : goal.decreases-loop-place
decreases-loop-place g l = length l.rows - l.place
