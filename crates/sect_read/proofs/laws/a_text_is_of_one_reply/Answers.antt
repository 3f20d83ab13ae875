-- By the laws of readers.
use Rattle.sect_read.proofs.TextLaws.{one_reply}
use Rattle.sect_read.proofs.laws.a_text_is_of_one_reply.Goals as goal

pub returns : goal.returns
returns c = one_reply
