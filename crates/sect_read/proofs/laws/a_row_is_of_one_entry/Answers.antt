-- By the laws of readers.
use Rattle.sect_read.proofs.TextLaws.{one_entry}
use Rattle.sect_read.proofs.laws.a_row_is_of_one_entry.Goals as goal

pub returns : goal.returns
returns c = one_entry
