-- What is read has the row, and the entry that has the row is read.
use Rattle.sect_read.proofs.TextLaws.{exact_row}
use Rattle.sect_read.proofs.Found.{finds_found, finds_only}
use Rattle.sect_read.proofs.row.read_row.Goals as goal

pub returns-clause-found : goal.returns-clause-found
returns-clause-found c = finds_found exact_row c.args.row.now c.find_entry.result c.find_entry.ensures

pub returns-clause-only : goal.returns-clause-only
returns-clause-only c = λ entry is. finds_only exact_row c.args.row.now c.find_entry.result c.find_entry.ensures entry is.0 is.1
