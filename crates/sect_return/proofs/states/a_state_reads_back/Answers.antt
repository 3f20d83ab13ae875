-- By the texts of the state's parts.
use Rattle.sect_return.proofs.Logs.{logs_read_back}
use Rattle.sect_return.proofs.StateTables.{states_read_back}
use Rattle.sect_return.proofs.states.a_state_reads_back.Goals as goal

pub returns-clause-states : goal.returns-clause-states
returns-clause-states c = states_read_back

pub returns-clause-logs : goal.returns-clause-logs
returns-clause-logs c = logs_read_back
