-- The faults of the keeper that the words name.
use Rattle.std.specs.Prelude.{ℕ}
use Rattle.sect_real.specs.declared.any.AnyKeeper.{AnyKeeper}
use Rattle.sect_real.specs.declared.any.AnyKeeper.TheVariants as kept

-- how often the keeper has failed
abbrev pub faults_of : AnyKeeper → ℕ
faults_of kept.Nowhere = 0
faults_of (kept.Sqlite keeper) = keeper.value.faults
faults_of (kept.Journal keeper) = keeper.disk.faults
