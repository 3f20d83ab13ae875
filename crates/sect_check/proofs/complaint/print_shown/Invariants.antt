-- The bytes so far stand there as they are shown.
use Rattle.std.proofs.Common.{◌≡◌, ◌++◌, map, take}
use Rattle.sect_check.specs.Complaints.{shown}
use Rattle.sect_check.proofs.complaint.print_shown.Given as goal

abbrev pub invariant-loop-byte : goal.invariant-loop-byte
invariant-loop-byte l = l.into.items ≡ l.fn.into.items ++ map shown (take l.byte-index l.word)
