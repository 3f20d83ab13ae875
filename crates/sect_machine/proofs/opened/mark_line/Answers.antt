-- The entry of a line that waits is marked.
use Rattle.std.proofs.Common.{OnOk, subst, sym}
use Rattle.sect_command.specs.declared.reply.LineResult.{LineResult}
use Rattle.sect_wait.specs.Marked.{MarksMore}
use Rattle.sect_wait.proofs.MarkLemmas.{on-ok}
use Rattle.sect_machine.specs.Opening.{result_opens}
use Rattle.sect_machine.proofs.OpeningLemmas.{ticket-marks}
use Rattle.sect_machine.proofs.opened.mark_line.Goals as goal

pub returns-in-Waiting : goal.returns-in-Waiting
returns-in-Waiting c =
    let es = c.args.queue.now.queue.entries in
    let m = c.args.marks.now in
    let n = c.mark_ticket.new.marks in
    let r = c.mark_ticket.result in
    subst (λ (x : LineResult). OnOk r (MarksMore (result_opens c.args.world.now.world c.args.marks.now.spent c.args.line.now.student x) es m n)) (sym c.in-Waiting.is)
    (on-ok r (ticket-marks c.in-Waiting.ticket es m n) c.mark_ticket.ensures.told)
