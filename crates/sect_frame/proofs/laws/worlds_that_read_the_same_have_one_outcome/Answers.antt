-- the law stands in the lemmas
use Rattle.sect_frame.proofs.WalkLemmas.{same-outcome}
use Rattle.sect_frame.proofs.laws.worlds_that_read_the_same_have_one_outcome.Goals as goal

pub returns : goal.returns
returns c = same-outcome
