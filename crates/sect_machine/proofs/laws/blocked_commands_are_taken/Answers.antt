-- The laws stand in the lemmas.
use Rattle.sect_machine.proofs.StepLemmas.{blocked-searches, blocked-accepted}
use Rattle.sect_machine.proofs.laws.blocked_commands_are_taken.Goals as goal

pub returns : goal.returns
returns c = record { searches = blocked-searches; accepted = blocked-accepted }
