-- the laws stand in the lemmas
use Rattle.sect_frame.proofs.OutcomeLemmas.{opens-touched, untouched-outcome}
use Rattle.sect_frame.proofs.laws.untouched_outcomes_stay.Goals as goal

pub returns-clause-opens : goal.returns-clause-opens
returns-clause-opens c = opens-touched

pub returns-clause-stays : goal.returns-clause-stays
returns-clause-stays c = untouched-outcome
