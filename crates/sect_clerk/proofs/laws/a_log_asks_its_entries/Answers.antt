-- The lines of a log.
use Rattle.sect_clerk.proofs.LogLines.{log_asks}
use Rattle.sect_clerk.proofs.laws.a_log_asks_its_entries.Goals as goal

pub returns : goal.returns
returns c = log_asks
