-- the law stands in the lemmas
use Rattle.sect_model.proofs.ChangeLemmas.{changes-keep, empty-keeps}
use Rattle.sect_model.proofs.laws.changes_keep_the_world.Goals as goal

pub returns-clause-empty : goal.returns-clause-empty
returns-clause-empty c = empty-keeps

pub returns-clause-changes : goal.returns-clause-changes
returns-clause-changes c = changes-keep
