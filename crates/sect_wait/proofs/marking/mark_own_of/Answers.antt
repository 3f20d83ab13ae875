-- Each turn marks one more, where it is the student's.
use Rattle.std.specs.Prelude.{◌==◌, ◌&&◌, ℕ, refl}
use Rattle.std.specs.List.{list_any}
use Rattle.std.proofs.Common.{◌≤◌, arith, length, subst}
use Rattle.std.proofs.lemmas.List.{take_all}
use Rattle.sect_model.specs.declared.held.Waiting.{Waiting}
use Rattle.sect_wait.specs.Marked.{MarksMore}
use Rattle.sect_wait.proofs.OnlyLemmas.{both-only, same-only}
use Rattle.sect_wait.proofs.ToldLemmas.{each-marked, nobody-marked}
use Rattle.sect_wait.proofs.marking.mark_own_of.Goals as goal

pub loop-ticket-init : goal.loop-ticket-init
loop-ticket-init c =
    let es = c.args.queue.now.queue.entries in
    (nobody-marked _ es c.args.marks.now (λ e. refl), same-only (λ e. c.args.student.0 == e.student.0) es c.args.marks.now)

pub loop-ticket-preserved : goal.loop-ticket-preserved
loop-ticket-preserved c =
    let es = c.args.queue.now.queue.entries in (
      each-marked (λ (t : ℕ) (e : Waiting). t == e.ticket && c.args.student.0 == e.student.0) c.args.tickets.now c.loop-ticket.ticket-index _ es c.args.marks.now c.loop-ticket.marks c.mark_if_own.new.marks c.loop-ticket-test.true c.loop-ticket.invariant.0 c.in_ok-mark_if_own.ensures.more,
      both-only (λ e. c.args.student.0 == e.student.0) es c.args.marks.now c.loop-ticket.marks c.mark_if_own.new.marks c.loop-ticket.invariant.1 c.in_ok-mark_if_own.ensures.only,
    )

pub returns-clause-more : goal.returns-clause-more
returns-clause-more c =
    let xs = c.args.tickets.now in
    let past : length xs ≤ c.loop-ticket.ticket-index = omega (arith, c.loop-ticket-test.false) in
    subst (λ ys. MarksMore (λ e. list_any (λ t. t == e.ticket && c.args.student.0 == e.student.0) ys) c.args.queue.now.queue.entries c.args.marks.now c.loop-ticket.marks) (take_all c.loop-ticket.ticket-index xs past) c.loop-ticket.invariant.0
