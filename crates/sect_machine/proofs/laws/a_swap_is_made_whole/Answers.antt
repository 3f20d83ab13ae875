-- The law stands in the lemmas.
use Rattle.sect_machine.proofs.DoneLemmas.{swap-whole}
use Rattle.sect_machine.proofs.laws.a_swap_is_made_whole.Goals as goal

pub returns : goal.returns
returns c = swap-whole
