use Rattle.sect_clerk.proofs.Refused.{names_refused}
use Rattle.sect_clerk.proofs.checker.what_is_said_is_of_refused_lines.Goals as goal

pub returns : goal.returns
returns c = names_refused
