-- the ledger of the searches is the blank's own
use Rattle.sect_best.proofs.schedule.best_in.Given as goal

abbrev pub ghosts-counted : goal.ghosts-counted
ghosts-counted a = record { name = a.blank.name; parts = a.blank.parts }
