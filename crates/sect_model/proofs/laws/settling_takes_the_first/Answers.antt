-- the law stands in the lemmas
use Rattle.sect_model.proofs.SettleSteps.{settle-unfolds, next-is-first}
use Rattle.sect_model.proofs.laws.settling_takes_the_first.Goals as goal

pub returns-clause-unfolds : goal.returns-clause-unfolds
returns-clause-unfolds c = settle-unfolds

pub returns-clause-first : goal.returns-clause-first
returns-clause-first c = next-is-first
