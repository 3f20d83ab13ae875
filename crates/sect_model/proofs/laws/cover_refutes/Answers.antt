-- the law stands in the lemmas
use Rattle.sect_model.proofs.CoverLemmas.{cover-no_path}
use Rattle.sect_model.proofs.MoveLaws.{cover_refutes}
use Rattle.sect_model.proofs.laws.cover_refutes.Goals as goal

pub returns-clause-paths : goal.returns-clause-paths
returns-clause-paths c = λ w mv. cover-no_path w mv

pub returns-clause-moves : goal.returns-clause-moves
returns-clause-moves c = λ w mv keeps standing. cover_refutes w mv keeps standing
