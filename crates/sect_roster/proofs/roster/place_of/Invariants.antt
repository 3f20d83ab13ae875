-- the first that passes is not before the place
use Rattle.std.proofs.Common.{◌≡◌, ◌≤◌, ◌+◌, ◌-◌, length, drop}
use Rattle.std.specs.List.{position_or_len}
use Rattle.sect_model.specs.World.{is_in}
use Rattle.sect_roster.proofs.roster.place_of.Given as goal

abbrev pub invariant-loop-place : goal.invariant-loop-place
invariant-loop-place l =
    (l.place ≤ length l.enrolments) × (position_or_len (is_in l.student l.course) l.enrolments ≡ l.place + position_or_len (is_in l.student l.course) (drop l.place l.enrolments))

abbrev pub decreases-loop-place : goal.decreases-loop-place
decreases-loop-place l = length l.enrolments - l.place
