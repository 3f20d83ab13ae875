-- the law stands in the lemmas
use Rattle.sect_best.proofs.LawLemmas.{plan-is-allowed}
use Rattle.sect_best.proofs.laws.the_plan_is_allowed.Goals as goal

pub returns : goal.returns
returns c = plan-is-allowed
