-- the law stands in the lemmas
use Rattle.sect_model.proofs.StepLemmas.{step-keeps, history-keeps, history-is-good}
use Rattle.sect_model.proofs.laws.steps_keep_the_world.Goals as goal

pub returns-clause-step : goal.returns-clause-step
returns-clause-step c = step-keeps

pub returns-clause-history : goal.returns-clause-history
returns-clause-history c = history-keeps

pub returns-clause-good : goal.returns-clause-good
returns-clause-good c = history-is-good
