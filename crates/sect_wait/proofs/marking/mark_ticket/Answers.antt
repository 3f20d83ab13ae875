-- The ticket is marked now, or is already.
use Rattle.sect_wait.proofs.OnlyLemmas.{ticket-only}
use Rattle.sect_wait.proofs.marking.mark_ticket.Goals as goal

pub returns-in_ok-mark-clause-only : goal.returns-in_ok-mark-clause-only
returns-in_ok-mark-clause-only c = λ es. ticket-only c.args.marks.now c.mark.new.self c.args.ticket es c.in_ok-mark.ensures.ok
