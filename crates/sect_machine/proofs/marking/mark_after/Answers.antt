-- What a wait marks, of these entries.
use Rattle.std.proofs.Common.{OnOk, subst, sym}
use Rattle.sect_command.specs.declared.command.Command.{Command}
use Rattle.sect_wait.specs.Marked.{MarksMore}
use Rattle.sect_wait.proofs.MarkLemmas.{on-ok}
use Rattle.sect_machine.specs.Opening.{opened}
use Rattle.sect_machine.proofs.marking.mark_after.Goals as goal

pub returns-in-Wait : goal.returns-in-Wait
returns-in-Wait c =
    subst (λ (x : Command). OnOk c.mark_joined.result (MarksMore (opened c.args.world.now.world c.args.marks.now.spent c.args.undo.now.backs x c.args.reply.now) c.args.queue.now.queue.entries c.args.marks.now c.mark_joined.new.marks))
    (sym c.in-Wait.is) (on-ok c.mark_joined.result (λ more. more c.args.queue.now.queue.entries) c.mark_joined.ensures)
