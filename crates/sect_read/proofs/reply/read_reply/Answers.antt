-- What is read has the text, and the reply that has the text is read.
use Rattle.sect_read.proofs.TextLaws.{exact_reply}
use Rattle.sect_read.proofs.Found.{finds_found, finds_only}
use Rattle.sect_read.proofs.reply.read_reply.Goals as goal

pub returns-clause-found : goal.returns-clause-found
returns-clause-found c = finds_found exact_reply c.args.text.now c.find_reply.result c.find_reply.ensures

pub returns-clause-only : goal.returns-clause-only
returns-clause-only c = λ reply fits is. finds_only exact_reply c.args.text.now c.find_reply.result c.find_reply.ensures reply fits is
