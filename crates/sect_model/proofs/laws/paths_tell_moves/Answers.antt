-- the law stands in the lemmas
use Rattle.sect_model.proofs.MoveLaws.{paths_tell_moves}
use Rattle.sect_model.proofs.laws.paths_tell_moves.Goals as goal

pub returns : goal.returns
returns c = λ w mv keeps standing. paths_tell_moves w mv keeps standing
