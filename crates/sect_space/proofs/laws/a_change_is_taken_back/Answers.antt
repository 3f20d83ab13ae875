-- the law stands in the lemmas
use Rattle.sect_space.proofs.TakenBack.{taken-back}
use Rattle.sect_space.proofs.laws.a_change_is_taken_back.Goals as goal

pub returns : goal.returns
returns c = taken-back
