-- the law stands in the lemmas
use Rattle.sect_model.proofs.HistoryLemmas.{ids-act-once}
use Rattle.sect_model.proofs.laws.ids_act_once.Goals as goal

pub returns : goal.returns
returns c = ids-act-once
