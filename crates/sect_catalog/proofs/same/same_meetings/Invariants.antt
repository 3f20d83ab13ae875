-- the lists agree so far, and are of one length
use Rattle.std.proofs.Common.{◌≡◌, take, length}
use Rattle.sect_catalog.proofs.same.same_meetings.Given as goal

abbrev pub invariant-loop-at : goal.invariant-loop-at
invariant-loop-at l = (length l.left ≡ length l.right) × (take l.at l.left ≡ take l.at l.right)
