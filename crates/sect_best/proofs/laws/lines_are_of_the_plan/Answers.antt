-- the law stands in the lemmas
use Rattle.sect_best.proofs.LawLemmas.{lines-of-the-plan}
use Rattle.sect_best.proofs.laws.lines_are_of_the_plan.Goals as goal

pub returns : goal.returns
returns c = lines-of-the-plan
