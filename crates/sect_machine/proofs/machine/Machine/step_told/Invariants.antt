-- The ledger of the step is the blank's own.
use Rattle.sect_machine.proofs.machine.Machine.step_told.Given as goal

abbrev pub ghosts-counted : goal.ghosts-counted
ghosts-counted a = record { name = a.blank.name; parts = a.blank.parts }
