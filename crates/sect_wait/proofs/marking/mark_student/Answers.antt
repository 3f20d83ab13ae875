-- Whom a change of the student concerns is the student's entry.
use Rattle.std.proofs.Common.{None, OnOk, subst, sym}
use Rattle.sect_wait.specs.Marked.{MarksMore, concerns}
use Rattle.sect_wait.specs.Touched.{MarksOnly}
use Rattle.sect_wait.proofs.MarkLemmas.{on-ok}
use Rattle.sect_wait.proofs.OnlyLemmas.{student-more, student-only}
use Rattle.sect_wait.proofs.marking.mark_student.Goals as goal

pub returns-in-Some-clause-more : goal.returns-in-Some-clause-more
returns-in-Some-clause-more c =
    let es = c.args.queue.now.queue.entries in
    let n = c.mark_own.new.marks in
    subst (λ s. OnOk c.mark_own.result (MarksMore (concerns s None) es c.args.marks.now n)) (sym c.in-Some.is)
    (on-ok c.mark_own.result (student-more c.in-Some.student es c.args.marks.now n) c.mark_own.ensures.more)

pub returns-in-Some-clause-only : goal.returns-in-Some-clause-only
returns-in-Some-clause-only c =
    let es = c.args.queue.now.queue.entries in
    let n = c.mark_own.new.marks in
    subst (λ s. OnOk c.mark_own.result (MarksOnly (concerns s None) es c.args.marks.now n)) (sym c.in-Some.is)
    (on-ok c.mark_own.result (student-only c.in-Some.student es c.args.marks.now n) c.mark_own.ensures.only)
