-- By the commands, one table after the other.
use Rattle.sect_return.proofs.TablesAgain.{tables_return}
use Rattle.sect_return.proofs.states.tables_return.Goals as goal

pub returns : goal.returns
returns c = tables_return
