-- the law stands in the lemmas
use Rattle.sect_space.proofs.MarkLemmas.{marked}
use Rattle.sect_space.proofs.laws.a_change_is_marked.Goals as goal

pub returns : goal.returns
returns c = marked
