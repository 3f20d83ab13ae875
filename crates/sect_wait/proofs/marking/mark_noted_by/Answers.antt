-- The offering is that of the course.
use Rattle.std.proofs.Common.{OnOk, ◌==◌, ◌∙◌, ap, length, subst}
use Rattle.sect_model.specs.World.{offering_of}
use Rattle.sect_wait.specs.Marked.{MarksMore, concerns, is_noted_in}
use Rattle.sect_wait.specs.Touched.{MarksOnly}
use Rattle.std.specs.Prelude.{None}
use Rattle.sect_wait.proofs.MarkLemmas.{none-noted}
use Rattle.sect_wait.proofs.marking.mark_noted_by.Goals as goal

pub returns-then-is_empty-clause-more : goal.returns-then-is_empty-clause-more
returns-then-is_empty-clause-more c =
    none-noted (offering_of c.args.world.now.world c.args.course) c.args.queue.now.queue.entries c.args.marks.now
    (c.if-is_empty.ensures ∙ ap (λ ts. length ts == 0) c.spent.ensures)

pub returns-clause-more : goal.returns-clause-more
returns-clause-more c =
    subst (λ o. OnOk c.mark_noted.result (MarksMore (is_noted_in c.args.marks.now.spent o) c.args.queue.now.queue.entries c.args.marks.now c.mark_noted.new.marks))
    c.offering_of.ensures c.mark_noted.ensures.more

pub returns-clause-only : goal.returns-clause-only
returns-clause-only c =
    subst (λ o. OnOk c.mark_noted.result (MarksOnly (concerns None o) c.args.queue.now.queue.entries c.args.marks.now c.mark_noted.new.marks))
    c.offering_of.ensures c.mark_noted.ensures.only
