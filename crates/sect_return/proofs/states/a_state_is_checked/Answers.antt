-- By the changes of each step.
use Rattle.sect_return.proofs.Histories.{states_are_checked}
use Rattle.sect_return.proofs.states.a_state_is_checked.Goals as goal

pub returns : goal.returns
returns c = states_are_checked
