use Rattle.std.proofs.Common.{length}
use Rattle.sect_tables.proofs.header.+first_other.Given as goal

abbrev pub decreases-first_other : goal.decreases-first_other
decreases-first_other l = length l.names.now
