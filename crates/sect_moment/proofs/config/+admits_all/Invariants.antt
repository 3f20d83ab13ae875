-- the rest is shorter
use Rattle.std.proofs.Common.{length}
use Rattle.sect_moment.proofs.config.+admits_all.Given as goal

abbrev pub decreases-admits_all : goal.decreases-admits_all
decreases-admits_all l = length l.sections.now
