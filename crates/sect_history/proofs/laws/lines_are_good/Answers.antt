-- the law stands in the lemmas
use Rattle.sect_history.proofs.StepLemmas.{lines-good}
use Rattle.sect_history.proofs.laws.lines_are_good.Goals as goal

pub returns : goal.returns
returns c = lines-good
