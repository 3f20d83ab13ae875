-- Each turn marks what one enrolment more opens.
use Rattle.std.proofs.Common.{subst}
use Rattle.sect_model.specs.declared.held.Waiting.{Waiting}
use Rattle.sect_model.specs.declared.change.Change.TheVariants.{Enrol}
use Rattle.sect_model.specs.Data.{Choice}
use Rattle.sect_wait.specs.Marked.{MarksMore, is_noted, may_need}
use Rattle.sect_wait.proofs.ToldLemmas.{each-marked}
use Rattle.sect_machine.proofs.opened.mark_taken.Goals as goal

pub loop-choice-preserved : goal.loop-choice-preserved
loop-choice-preserved c =
    let w = c.args.world.now.world in
    let es = c.args.queue.now.queue.entries in
    let k = c.loop-choice.marks in
    let n = c.mark_choice.new.marks in
    each-marked (λ (d : Choice) (e : Waiting). may_need w (is_noted c.args.marks.now.spent e) e (Enrol (record { student = c.args.student; choice = d }))) c.args.choices.now c.loop-choice.choice-index c.choice-item.result es
    c.args.marks.now k n c.loop-choice-test.true c.loop-choice.invariant
    (subst (λ (d : Choice). MarksMore (λ e. may_need w (is_noted c.args.marks.now.spent e) e (Enrol (record { student = c.args.student; choice = d }))) es k n) c.choice-item.is
    (subst (λ ts. MarksMore (λ e. may_need w (is_noted ts e) e (Enrol (record { student = c.args.student; choice = c.choice-item.result }))) es k n) c.loop-choice.invariant.kept.spent c.in_ok-mark_choice.ensures))
