-- the law stands in the lemmas
use Rattle.sect_model.proofs.RefutedLemmas.{blocked-refutes, step-refutes, batch-refutes}
use Rattle.sect_model.proofs.laws.blocked_is_refuted.Goals as goal

pub returns-clause-search : goal.returns-clause-search
returns-clause-search c = blocked-refutes

pub returns-clause-step : goal.returns-clause-step
returns-clause-step c = step-refutes

pub returns-clause-batch : goal.returns-clause-batch
returns-clause-batch c = batch-refutes
