-- That a student waits is told before the ticket is noted.
use Rattle.std.proofs.Common.{◌∙◌, ap}
use Rattle.sect_wait.specs.Indexed.{has_ticket, tickets_by}
use Rattle.sect_wait.proofs.IndexLemmas.{own-has, own-kept}
use Rattle.sect_wait.proofs.by_student.ByStudent.note.Goals as goal

pub returns-in_err-begin-clause-kept : goal.returns-in_err-begin-clause-kept
returns-in_err-begin-clause-kept c =
    own-kept c.args.self.now c.begin.new.self c.in_err-begin.ensures.kept (λ n t has. ap (λ index. has_ticket t (tickets_by index n)) c.in_err-begin.ensures.tickets ∙ has)

pub returns-clause-kept : goal.returns-clause-kept
returns-clause-kept c =
    own-kept c.args.self.now (record { tickets = c.note.new.index; waited = c.begin.new.self.waited }) c.in_ok-begin.ensures.kept
    (λ n t has. c.note.ensures.kept n t (ap (λ index. has_ticket t (tickets_by index n)) c.in_ok-begin.ensures.tickets ∙ has))

pub returns-clause-noted : goal.returns-clause-noted
returns-clause-noted c =
    own-has c.args.self.now (record { tickets = c.note.new.index; waited = c.begin.new.self.waited }) c.note.result c.args.student.0 c.args.ticket
    c.in_ok-begin.ensures.waited c.note.ensures.noted
