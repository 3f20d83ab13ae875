-- the law stands in the lemmas
use Rattle.sect_model.proofs.CoverLemmas.{cover-one}
use Rattle.sect_model.proofs.laws.cover_is_one.Goals as goal

pub returns : goal.returns
returns c = λ w mv. cover-one w mv
