-- What the leavings open is marked, and then what the enrolments open.
use Rattle.std.proofs.Common.{OnOk, subst}
use Rattle.sect_wait.specs.Marked.{MarksMore}
use Rattle.sect_machine.specs.Opening.{leaving_opens, taking_opens}
use Rattle.sect_machine.proofs.OpeningLemmas.{either-marks}
use Rattle.sect_machine.proofs.opened.mark_move.Goals as goal

pub returns : goal.returns
returns c =
    let w = c.args.world.now.world in
    either-marks (leaving_opens w c.args.student c.args.give.now) (taking_opens w c.args.marks.now.spent c.args.student c.args.choices.now) c.args.queue.now.queue.entries c.args.marks.now c.mark_given.new.marks c.mark_taken.new.marks
    c.mark_taken.result c.in_ok-mark_given.ensures
    (subst (λ ts. OnOk c.mark_taken.result (MarksMore (taking_opens w ts c.args.student c.args.choices.now) c.args.queue.now.queue.entries c.mark_given.new.marks c.mark_taken.new.marks)) c.in_ok-mark_given.ensures.kept.spent
    c.mark_taken.ensures)
