-- Who wants one of the courses is marked.
use Rattle.std.proofs.Common.{subst}
use Rattle.sect_wait.specs.Marked.{MarksMore, wants_one}
use Rattle.sect_wait.specs.Touched.{MarksOnly}
use Rattle.sect_wait.proofs.OnlyLemmas.{fallen-seek}
use Rattle.sect_wait.proofs.opened.fall_back.Goals as goal

pub returns-clause-more : goal.returns-clause-more
returns-clause-more c = λ es.
    subst (λ cs. MarksMore (wants_one cs) es c.args.marks.now c.mark_wanted.new.marks) c.as_slice.ensures.value (c.in_ok-mark_wanted.ensures.more es)

pub returns-clause-only : goal.returns-clause-only
returns-clause-only c = λ es.
    fallen-seek es c.args.marks.now c.mark_wanted.new.marks c.args.opened.now.courses.items c.clear.new.self.items c.clear.ensures.items
    (subst (λ cs. MarksOnly (wants_one cs) es c.args.marks.now c.mark_wanted.new.marks) c.as_slice.ensures.value (c.in_ok-mark_wanted.ensures.only es))
