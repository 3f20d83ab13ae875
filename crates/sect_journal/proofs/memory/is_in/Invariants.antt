use Rattle.std.proofs.Common.{◌≡◌, length}
use Rattle.sect_journal.specs.Disk.{is_touched}
use Rattle.sect_journal.proofs.memory.is_in.Given as goal

abbrev pub invariant-loop-rest : goal.invariant-loop-rest
invariant-loop-rest l = is_touched l.rest l.fn.place ≡ is_touched l.fn.ranges l.fn.place

abbrev pub decreases-loop-rest : goal.decreases-loop-rest
decreases-loop-rest l = length l.rest
