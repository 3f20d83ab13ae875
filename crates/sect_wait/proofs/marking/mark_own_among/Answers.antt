-- Each turn marks one more, where it is the student's.
use Rattle.std.specs.Prelude.{◌==◌, ◌&&◌, refl}
use Rattle.std.specs.List.{list_any}
use Rattle.std.proofs.Common.{◌≤◌, arith, length, subst}
use Rattle.std.proofs.lemmas.List.{take_all}
use Rattle.sect_model.specs.declared.held.Waiting.{Waiting}
use Rattle.sect_wait.specs.Marked.{MarksMore}
use Rattle.sect_wait.proofs.OnlyLemmas.{both-only, same-only}
use Rattle.sect_wait.proofs.ToldLemmas.{each-marked, nobody-marked}
use Rattle.sect_wait.proofs.marking.mark_own_among.Goals as goal

pub loop-entry-init : goal.loop-entry-init
loop-entry-init c =
    let es = c.args.queue.now.queue.entries in
    (nobody-marked _ es c.args.marks.now (λ e. refl), same-only (λ e. c.args.student.0 == e.student.0) es c.args.marks.now)

pub loop-entry-preserved : goal.loop-entry-preserved
loop-entry-preserved c =
    let es = c.args.queue.now.queue.entries in (
      each-marked (λ (d : Waiting) (e : Waiting). d.ticket == e.ticket && c.args.student.0 == e.student.0) c.args.entries.now c.loop-entry.entry-index c.entry-item.result es c.args.marks.now c.loop-entry.marks c.mark_if_own.new.marks c.loop-entry-test.true c.loop-entry.invariant.0
          (subst (λ (d : Waiting). MarksMore (λ e. d.ticket == e.ticket && c.args.student.0 == e.student.0) es c.loop-entry.marks c.mark_if_own.new.marks) c.entry-item.is c.in_ok-mark_if_own.ensures.more),
      both-only (λ e. c.args.student.0 == e.student.0) es c.args.marks.now c.loop-entry.marks c.mark_if_own.new.marks c.loop-entry.invariant.1 c.in_ok-mark_if_own.ensures.only,
    )

pub returns-clause-more : goal.returns-clause-more
returns-clause-more c =
    let xs = c.args.entries.now in
    let past : length xs ≤ c.loop-entry.entry-index = omega (arith, c.loop-entry-test.false) in
    subst (λ ys. MarksMore (λ e. list_any (λ d. d.ticket == e.ticket && c.args.student.0 == e.student.0) ys) c.args.queue.now.queue.entries c.args.marks.now c.loop-entry.marks) (take_all c.loop-entry.entry-index xs past) c.loop-entry.invariant.0
