-- the law stands in the lemmas
use Rattle.sect_best.proofs.LawLemmas.{full-is-enough}
use Rattle.sect_best.proofs.laws.a_full_budget_is_not_spent.Goals as goal

pub returns : goal.returns
returns c = full-is-enough
