-- A run over a log.
use Rattle.sect_clerk.proofs.Taken.{log_is_taken}
use Rattle.sect_clerk.proofs.laws.a_log_that_is_taken_is_the_history.Goals as goal

pub returns : goal.returns
returns g c = log_is_taken g.K.Keeper.rows g.K.Keeper.faults
