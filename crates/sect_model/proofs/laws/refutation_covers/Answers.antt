-- the law stands in the lemmas
use Rattle.sect_model.proofs.MoveLaws.{refutation_covers}
use Rattle.sect_model.proofs.laws.refutation_covers.Goals as goal

pub returns : goal.returns
returns c = λ w mv keeps standing. refutation_covers w mv keeps standing
