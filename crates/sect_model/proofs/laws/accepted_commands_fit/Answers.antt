-- the law stands in the lemmas
use Rattle.sect_model.proofs.Accepted.{accepted-fits}
use Rattle.sect_model.proofs.laws.accepted_commands_fit.Goals as goal

pub returns : goal.returns
returns c = accepted-fits
