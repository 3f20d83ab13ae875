-- the law stands in the lemmas
use Rattle.sect_history.proofs.Histories.{replays-good}
use Rattle.sect_history.proofs.laws.replays_are_good.Goals as goal

pub returns : goal.returns
returns c = replays-good
