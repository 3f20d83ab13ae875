-- By the laws of readers.
use Rattle.sect_read.proofs.TextLaws.{one_request}
use Rattle.sect_read.proofs.laws.a_line_asks_one_request.Goals as goal

pub returns : goal.returns
returns c = one_request
