-- the law stands in the lemmas
use Rattle.sect_best.proofs.LeaveLemmas.{leaves-all}
use Rattle.sect_best.proofs.laws.plans_give_all_up.Goals as goal

pub returns : goal.returns
returns c = leaves-all
