-- the law stands in the lemmas
use Rattle.sect_model.proofs.KeptMoves.{settling-keeps}
use Rattle.sect_model.proofs.laws.settling_keeps_the_world.Goals as goal

pub returns : goal.returns
returns c = settling-keeps
