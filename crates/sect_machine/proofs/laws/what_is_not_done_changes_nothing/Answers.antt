-- The law stands in the lemmas.
use Rattle.sect_machine.proofs.DoneLemmas.{not-done}
use Rattle.sect_machine.proofs.laws.what_is_not_done_changes_nothing.Goals as goal

pub returns : goal.returns
returns c = not-done
