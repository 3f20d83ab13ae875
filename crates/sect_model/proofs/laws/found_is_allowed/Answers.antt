-- the law stands in the lemmas
use Rattle.sect_model.proofs.OutcomeLemmas.{found-is-allowed}
use Rattle.sect_model.proofs.laws.found_is_allowed.Goals as goal

pub returns : goal.returns
returns c = found-is-allowed
