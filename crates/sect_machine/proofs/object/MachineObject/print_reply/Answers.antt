-- The reply behind the request is the row of the entry.
use Rattle.sect_rows.proofs.Histories.{completed-row}
use Rattle.sect_machine.proofs.object.MachineObject.print_reply.Goals as goal

pub returns-clause-row : goal.returns-clause-row
returns-clause-row c = λ id day command begun has. completed-row id day command c.args.reply.now c.args.into.now.items c.print_told_reply.new.into.items begun has c.in_ok-at.ensures.text
