-- the law stands in the lemmas
use Rattle.sect_model.proofs.SizeLemmas.{roster-is-small}
use Rattle.sect_model.proofs.laws.the_roster_is_small.Goals as goal

pub returns : goal.returns
returns c = roster-is-small
