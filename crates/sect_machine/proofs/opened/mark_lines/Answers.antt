-- Each turn marks what one line more opens.
use Rattle.std.proofs.Common.{subst}
use Rattle.sect_command.specs.declared.reply.Line.{Line}
use Rattle.sect_model.specs.declared.held.Waiting.{Waiting}
use Rattle.sect_wait.specs.Marked.{MarksMore}
use Rattle.sect_wait.proofs.ToldLemmas.{each-marked}
use Rattle.sect_machine.specs.Opening.{result_opens}
use Rattle.sect_machine.proofs.opened.mark_lines.Goals as goal

pub loop-line-preserved : goal.loop-line-preserved
loop-line-preserved c =
    let w = c.args.world.now.world in
    let es = c.args.queue.now.queue.entries in
    let k = c.loop-line.marks in
    let n = c.mark_line.new.marks in
    each-marked (λ (d : Line) (e : Waiting). result_opens w c.args.marks.now.spent d.student d.result e) c.args.lines.now c.loop-line.line-index c.line-item.result es c.args.marks.now k n
    c.loop-line-test.true c.loop-line.invariant (subst (λ (d : Line). MarksMore (result_opens w c.args.marks.now.spent d.student d.result) es k n) c.line-item.is
    (subst (λ ts. MarksMore (result_opens w ts c.line-item.result.student c.line-item.result.result) es k n) c.loop-line.invariant.kept.spent c.in_ok-mark_line.ensures))
