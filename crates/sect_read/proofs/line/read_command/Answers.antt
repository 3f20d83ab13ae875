-- The command that is read is that of the text.
use Rattle.sect_read.proofs.Found.{command_said, command_only}
use Rattle.sect_read.proofs.line.read_command.Goals as goal

pub returns-clause-found : goal.returns-clause-found
returns-clause-found c = command_said c.args.text.now c.read_whole_command.result c.read_whole_command.ensures

pub returns-clause-only : goal.returns-clause-only
returns-clause-only c = λ command is. command_only c.args.text.now c.read_whole_command.result c.read_whole_command.ensures command is
