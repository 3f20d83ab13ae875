-- the law stands in the lemmas
use Rattle.sect_model.proofs.MoveLaws.{first_is_visited}
use Rattle.sect_model.proofs.laws.first_is_visited.Goals as goal

pub returns : goal.returns
returns c = λ w mv keeps standing. first_is_visited w mv keeps standing
