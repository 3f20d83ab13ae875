-- By the laws of readers.
use Rattle.sect_read.proofs.TextLaws.{one_command}
use Rattle.sect_read.proofs.laws.a_printed_text_is_of_one_command.Goals as goal

pub returns : goal.returns
returns c = one_command
