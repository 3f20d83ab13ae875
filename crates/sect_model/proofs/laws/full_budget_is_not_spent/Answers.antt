-- the law stands in the lemmas
use Rattle.sect_model.proofs.VisitLemmas.{visits-steps}
use Rattle.sect_model.proofs.OutcomeLemmas.{full-not-spent, full-fixed}
use Rattle.sect_model.proofs.laws.full_budget_is_not_spent.Goals as goal

pub returns-clause-visits : goal.returns-clause-visits
returns-clause-visits c = λ w mv. visits-steps w mv

pub returns-clause-budget : goal.returns-clause-budget
returns-clause-budget c = full-not-spent

pub returns-clause-fixed : goal.returns-clause-fixed
returns-clause-fixed c = full-fixed
