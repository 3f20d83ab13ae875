-- the law stands in the lemmas
use Rattle.sect_model.proofs.SettleLemmas.{tickets-decide}
use Rattle.sect_model.proofs.laws.tickets_decide_in_one_class.Goals as goal

pub returns : goal.returns
returns c = tickets-decide
