use Rattle.sect_check.proofs.Said.{names_others}
use Rattle.sect_check.proofs.laws.nothing_is_said_of_requests_alone.Goals as goal

pub returns : goal.returns
returns c = names_others
