-- the law stands in the lemmas
use Rattle.sect_history.proofs.StepLemmas.{steps-lead}
use Rattle.sect_history.proofs.laws.steps_lead.Goals as goal

pub returns : goal.returns
returns c = steps-lead
