-- the law stands in the lemmas
use Rattle.sect_model.proofs.WalkLemmas.{walks-answer}
use Rattle.sect_model.proofs.SearchLemmas.{search-answers}
use Rattle.sect_model.proofs.laws.walks_answer.Goals as goal

pub returns-clause-walk : goal.returns-clause-walk
returns-clause-walk c = λ w mv budget keeps standing. walks-answer w mv budget keeps standing

pub returns-clause-budget : goal.returns-clause-budget
returns-clause-budget c = λ w mv budget keeps standing. search-answers w mv budget keeps standing
