-- By the lemmas of histories.
use Rattle.sect_rows.proofs.Histories.{history-has-row, entry-has-row}
use Rattle.sect_rows.proofs.laws.an_entry_has_a_row.Goals as goal

pub returns-clause-history : goal.returns-clause-history
returns-clause-history c = history-has-row

pub returns-clause-rows : goal.returns-clause-rows
returns-clause-rows c = entry-has-row
