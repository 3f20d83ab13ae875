-- the laws stand in the lemmas
use Rattle.sect_space.proofs.Steps.{since-none, since-more, since-both, since-longer, since-undone}
use Rattle.sect_space.proofs.laws.changes_are_undone.Goals as goal

pub returns-clause-none : goal.returns-clause-none
returns-clause-none c = since-none

pub returns-clause-more : goal.returns-clause-more
returns-clause-more c = since-more

pub returns-clause-joined : goal.returns-clause-joined
returns-clause-joined c = since-both

pub returns-clause-longer : goal.returns-clause-longer
returns-clause-longer c = since-longer

pub returns-clause-world : goal.returns-clause-world
returns-clause-world c = λ w v backs now k s. (since-undone w v backs now k s).0

pub returns-clause-recorded : goal.returns-clause-recorded
returns-clause-recorded c = λ w v backs now k s. (since-undone w v backs now k s).1
