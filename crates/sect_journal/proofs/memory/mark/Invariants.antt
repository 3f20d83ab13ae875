use Rattle.std.proofs.Common.{◌≡◌, ◌+◌, ◌++◌, length}
use Rattle.sect_journal.specs.Memory.{marked}
use Rattle.sect_journal.proofs.memory.mark.Given as goal

abbrev pub invariant-loop-rest : goal.invariant-loop-rest
invariant-loop-rest l = record {
  so_far : l.image.items ++ marked l.fn.ranges l.fn.with l.place l.rest ≡ marked l.fn.ranges l.fn.with 0 l.fn.bytes;
  place : l.place + length l.rest ≡ length l.fn.bytes;
}

abbrev pub decreases-loop-rest : goal.decreases-loop-rest
decreases-loop-rest l = length l.rest
