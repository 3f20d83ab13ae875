-- the law stands in the lemmas
use Rattle.sect_model.proofs.SpaceLemmas.{expiries-decide}
use Rattle.sect_model.proofs.laws.expiries_decide_without_first_days.Goals as goal

pub returns : goal.returns
returns c = expiries-decide
