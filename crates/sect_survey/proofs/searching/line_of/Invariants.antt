-- the ledger of the search is the blank's own
use Rattle.sect_survey.proofs.searching.line_of.Given as goal

abbrev pub ghosts-counted : goal.ghosts-counted
ghosts-counted a = record { name = a.blank.name; parts = a.blank.parts }
