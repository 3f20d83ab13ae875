-- Those that were counted, and those that are left, are all of the words.
use Rattle.std.proofs.Common.{◌≡◌, ◌+◌, length}
use Rattle.sect_check.proofs.complaint.count.Given as goal

abbrev pub decreases-loop-count : goal.decreases-loop-count
decreases-loop-count l = length l.words

abbrev pub invariant-loop-count : goal.invariant-loop-count
invariant-loop-count l = l.count + length l.words ≡ length l.fn.words
