-- The text of a reply in quotes.
use Rattle.sect_wire.proofs.Plain.{as_it_is}
use Rattle.sect_wire.proofs.law.a_reply_stands_as_it_is.Goals as goal

pub returns : goal.returns
returns c = as_it_is
