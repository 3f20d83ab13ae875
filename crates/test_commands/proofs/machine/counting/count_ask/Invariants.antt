-- The ledger of the count is the blank's own.
use Rattle.test_commands.proofs.machine.counting.count_ask.Given as goal

abbrev pub ghosts-counted : goal.ghosts-counted
ghosts-counted a = record { name = a.blank.name; parts = a.blank.parts }
