-- the law stands in the lemmas
use Rattle.sect_model.proofs.SettleLemmas.{settles, settled-stays}
use Rattle.sect_model.proofs.laws.settling_settles.Goals as goal

pub returns-clause-settles : goal.returns-clause-settles
returns-clause-settles c = settles

pub returns-clause-stays : goal.returns-clause-stays
returns-clause-stays c = settled-stays
