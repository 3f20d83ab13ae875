-- the law stands in the lemmas
use Rattle.sect_best.proofs.LawLemmas.{no-plan-is-greater}
use Rattle.sect_best.proofs.laws.no_plan_is_greater.Goals as goal

pub returns : goal.returns
returns c = no-plan-is-greater
