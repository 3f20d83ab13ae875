-- the law stands in the lemmas
use Rattle.sect_space.proofs.Steps.{undoable-none}
use Rattle.sect_space.proofs.laws.nothing_is_undoable.Goals as goal

pub returns : goal.returns
returns c = undoable-none
