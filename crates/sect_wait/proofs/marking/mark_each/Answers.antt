-- Each turn marks one ticket more.
use Rattle.std.specs.Prelude.{◌==◌, ℕ, refl}
use Rattle.std.proofs.Common.{Some, ◌≤◌, arith, length, subst}
use Rattle.std.proofs.lemmas.List.{take_all}
use Rattle.sect_model.specs.declared.held.Waiting.{Waiting}
use Rattle.sect_wait.specs.Indexed.{MarksTold}
use Rattle.sect_wait.proofs.NeedLemmas.{all-kept}
use Rattle.sect_wait.proofs.OnlyLemmas.{each-only, same-only}
use Rattle.sect_wait.proofs.ToldLemmas.{told-more}
use Rattle.sect_wait.proofs.marking.mark_each.Goals as goal

pub loop-ticket-init : goal.loop-ticket-init
loop-ticket-init c = (record { kept = all-kept c.args.marks.now; added = λ e u. refl }, (λ es. same-only _ es c.args.marks.now))

pub loop-ticket-preserved : goal.loop-ticket-preserved
loop-ticket-preserved c = (
  told-more c.args.tickets.now c.loop-ticket.ticket-index _ c.args.marks.now c.loop-ticket.marks c.mark_ticket.new.marks c.loop-ticket-test.true c.loop-ticket.invariant.0
      c.in_ok-mark_ticket.ensures.told,
  (λ es.
      each-only (λ (t : ℕ) (e : Waiting). t == e.ticket) c.args.tickets.now c.loop-ticket.ticket-index _ es c.args.marks.now c.loop-ticket.marks c.mark_ticket.new.marks c.loop-ticket-test.true (c.loop-ticket.invariant.1 es)
      (c.in_ok-mark_ticket.ensures.only es)),
)

pub returns-clause-told : goal.returns-clause-told
returns-clause-told c =
    let xs = c.args.tickets.now in
    let past : length xs ≤ c.loop-ticket.ticket-index = omega (arith, c.loop-ticket-test.false) in
    subst (λ ys. MarksTold (Some ys) c.args.marks.now c.loop-ticket.marks) (take_all c.loop-ticket.ticket-index xs past) c.loop-ticket.invariant.0
