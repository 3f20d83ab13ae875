-- By the laws of readers.
use Rattle.sect_read.proofs.TextLaws.{one_row}
use Rattle.sect_read.proofs.laws.an_entry_has_one_row.Goals as goal

pub returns : goal.returns
returns c = one_row
