-- the law stands in the lemmas
use Rattle.sect_model.proofs.StepLemmas.{step-settles}
use Rattle.sect_model.proofs.laws.steps_settle.Goals as goal

pub returns : goal.returns
returns c = step-settles
