-- The ticket is marked where its entry is the student's.
use Rattle.std.specs.Prelude.{◌==◌}
use Rattle.std.proofs.Common.{◌∙◌, sym}
use Rattle.sect_wait.proofs.MarkLemmas.{on-ok}
use Rattle.sect_wait.proofs.OnlyLemmas.{own-elsewhere, own-marked, own-only}
use Rattle.sect_wait.proofs.marking.mark_if_own.Goals as goal

pub returns-then-is_own-clause-more : goal.returns-then-is_own-clause-more
returns-then-is_own-clause-more c =
    on-ok c.mark_ticket.result (own-marked c.args.queue.now.queue.entries c.args.ticket (λ e. c.args.student.0 == e.student.0) c.args.marks.now c.mark_ticket.new.marks) c.mark_ticket.ensures.told

pub returns-then-is_own-clause-only : goal.returns-then-is_own-clause-only
returns-then-is_own-clause-only c =
    let es = c.args.queue.now.queue.entries in
    on-ok c.mark_ticket.result
    (λ only. own-only es c.args.ticket (λ e. c.args.student.0 == e.student.0) c.args.marks.now c.mark_ticket.new.marks (λ e a same. sym c.if-is_own.true ∙ c.is_own.ensures e a same) (only es)) c.mark_ticket.ensures.only

pub returns-else-is_own-clause-more : goal.returns-else-is_own-clause-more
returns-else-is_own-clause-more c =
    own-elsewhere c.args.queue.now.queue.entries c.args.ticket (λ e. c.args.student.0 == e.student.0) c.args.marks.now (λ e a same. sym c.if-is_own.false ∙ c.is_own.ensures e a same)
