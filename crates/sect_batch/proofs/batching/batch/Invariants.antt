-- the ledger of the batch is the blank's own
use Rattle.sect_batch.proofs.batching.batch.Given as goal

abbrev pub ghosts-counted : goal.ghosts-counted
ghosts-counted a = record { name = a.blank.name; parts = a.blank.parts }
