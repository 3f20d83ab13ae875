-- What holds of the others once the best was found.
use Rattle.std.proofs.Common.{Some, subst}
use Rattle.sect_wait.specs.Indexed.{MarksTold}
use Rattle.sect_wait.specs.Indexed.{has_ticket}
use Rattle.sect_wait.specs.Marked.{NotesMore}
use Rattle.sect_wait.specs.Touched.{MarksOnly}
use Rattle.sect_wait.proofs.CountLemmas.{round-only}
use Rattle.sect_wait.proofs.NextLemmas.{after-others, unsought}
use Rattle.sect_wait.proofs.next.next.Goals as goal

pub first-requires-clause-others : goal.first-requires-clause-others
first-requires-clause-others g c = unsought c.args.world.now.world c.args.queue.now.queue.entries c.args.marks.now c.args.opened.now c.requires.others

pub returns-clause-others : goal.returns-clause-others
returns-clause-others g c =
    let w = c.args.world.now.world in
    let es = c.args.queue.now.queue.entries in
    after-others w es c.args.marks.now c.pass.new.marks c.note_each.new.marks c.mark_each.new.marks c.args.opened.now c.first.new.left c.in_ok-best.best c.requires.others c.in_ok-best.ensures.others c.pass.ensures
    (subst (λ ts. NotesMore ts c.pass.new.marks c.note_each.new.marks) c.as_slice.ensures.value c.in_ok-note_each.ensures)
    (subst (λ ts. MarksTold (Some ts) c.note_each.new.marks c.mark_each.new.marks) c.as_slice-2.ensures.value c.in_ok-mark_each.ensures.told)

pub returns-clause-only : goal.returns-clause-only
returns-clause-only g c =
    let q = c.args.queue.now.queue in
    round-only c.args.marks.now c.pass.new.marks c.note_each.new.marks c.mark_each.new.marks c.args.opened.now q.entries q.next c.in_ok-best.best c.none-left.result.again.items c.first.new.left.again.items c.first.new.left.spent.items
    c.recall_kept.ensures.kept.in_order c.none-left.ensures.again c.in_ok-best.ensures.again c.pass.ensures
    (subst (λ ts. NotesMore ts c.pass.new.marks c.note_each.new.marks) c.as_slice.ensures.value c.in_ok-note_each.ensures)
    (subst (λ ts. MarksOnly (λ e. has_ticket e.ticket ts) q.entries c.note_each.new.marks c.mark_each.new.marks) c.as_slice-2.ensures.value (c.in_ok-mark_each.ensures.only q.entries))
