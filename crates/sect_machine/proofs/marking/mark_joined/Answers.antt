-- The entry of the ticket is marked.
use Rattle.std.proofs.Common.{subst, sym}
use Rattle.sect_command.specs.declared.reply.Reply.{Reply}
use Rattle.sect_wait.specs.Marked.{MarksMore}
use Rattle.sect_wait.proofs.MarkLemmas.{on-ok}
use Rattle.sect_machine.specs.Opening.{is_joined}
use Rattle.sect_machine.proofs.OpeningLemmas.{ticket-marks}
use Rattle.sect_machine.proofs.marking.mark_joined.Goals as goal

pub returns-in-Waiting : goal.returns-in-Waiting
returns-in-Waiting c =
    on-ok c.mark_ticket.result (λ told entries.
    subst (λ (x : Reply). MarksMore (is_joined x) entries c.args.marks.now c.mark_ticket.new.marks) (sym c.in-Waiting.is)
    (ticket-marks c.in-Waiting.ticket entries c.args.marks.now c.mark_ticket.new.marks told)) c.mark_ticket.ensures.told
