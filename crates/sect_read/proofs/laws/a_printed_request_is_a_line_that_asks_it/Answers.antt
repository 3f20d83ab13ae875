-- By the laws of readers.
use Rattle.sect_read.proofs.TextLaws.{printed_is_line}
use Rattle.sect_read.proofs.laws.a_printed_request_is_a_line_that_asks_it.Goals as goal

pub returns : goal.returns
returns c = printed_is_line
