-- the laws stand in the lemmas
use Rattle.sect_frame.proofs.NeedLemmas.{spent-needs-none, needless-unplaced, needless-stays}
use Rattle.sect_frame.proofs.laws.needless_searches_are_spared.Goals as goal

pub returns-clause-spent : goal.returns-clause-spent
returns-clause-spent c = spent-needs-none

pub returns-clause-unplaced : goal.returns-clause-unplaced
returns-clause-unplaced c = needless-unplaced

pub returns-clause-stays : goal.returns-clause-stays
returns-clause-stays c = needless-stays
