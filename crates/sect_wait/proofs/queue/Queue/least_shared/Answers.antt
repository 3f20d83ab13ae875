-- Each turn takes one ticket more, and at the end all of the student's were taken.
use Rattle.std.proofs.Common.{[], ◌≤◌, ◌∷◌, ◌++◌, arith, length, sym, subst, take, get_or}
use Rattle.std.proofs.lemmas.List.{take_more, take_all}
use Rattle.sect_refuse.specs.Tickets.{is_shared}
use Rattle.sect_wait.proofs.SharedLemmas.{IsLeastOf, least-none, least-more, least-told}
use Rattle.sect_wait.proofs.queue.Queue.least_shared.Goals as goal

pub loop-ticket-init : goal.loop-ticket-init
loop-ticket-init c = least-none (is_shared c.args.student c.args.courses.now) c.args.self.now.queue.entries

pub loop-ticket-preserved : goal.loop-ticket-preserved
loop-ticket-preserved c =
    let q = c.args.self.now.queue in
    let test = is_shared c.args.student c.args.courses.now in
    let ts = c.args.tickets.now in
    let i = c.loop-ticket.ticket-index in
    let more = take_more ts i 0 c.loop-ticket-test.true in
    subst (λ us. IsLeastOf test q.entries us c.with_ticket-best.result) (sym more)
    (subst (IsLeastOf test q.entries (take i ts ++ get_or ts i 0 ∷ [])) (sym c.with_ticket-best.ensures)
    (least-more test q.entries (get_or ts i 0) q.next c.recall_kept.ensures.kept.in_order (take i ts) c.loop-ticket.best c.loop-ticket.invariant))

pub returns : goal.returns
returns c =
    let ts = c.args.tickets.now in
    let es = c.args.self.now.queue.entries in
    let past : length ts ≤ c.loop-ticket.ticket-index = omega (arith, c.loop-ticket-test.false) in
    least-told c.args.student c.args.courses.now es ts c.loop-ticket.best c.requires
    (subst (λ us. IsLeastOf (is_shared c.args.student c.args.courses.now) es us c.loop-ticket.best) (take_all c.loop-ticket.ticket-index ts past) c.loop-ticket.invariant)
