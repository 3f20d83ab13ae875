-- the law stands in the lemmas
use Rattle.sect_model.proofs.MoveLaws.{moves_have_paths}
use Rattle.sect_model.proofs.laws.moves_have_paths.Goals as goal

pub returns : goal.returns
returns c = λ w mv keeps. moves_have_paths w mv keeps
