-- Who wants one of the offering's courses is marked.
use Rattle.std.proofs.Common.{None, OnOk, List, ap, option_copied, subst, sym}
use Rattle.sect_model.specs.declared.held.Waiting.{Waiting}
use Rattle.sect_wait.specs.Marked.{MarksMore, concerns, wants_some}
use Rattle.sect_wait.specs.Touched.{MarksOnly}
use Rattle.sect_wait.proofs.OnlyLemmas.{row-only}
use Rattle.sect_wait.proofs.ToldLemmas.{row-marked}
use Rattle.sect_wait.proofs.marking.mark_row.Goals as goal

pub returns-in-Some-clause-more : goal.returns-in-Some-clause-more
returns-in-Some-clause-more c =
    let r = c.mark_courses.result in
    subst (λ o. OnOk r ((es : List Waiting) → MarksMore (concerns None o) es c.args.marks.now c.mark_courses.new.marks)) (sym (ap option_copied c.in-Some.is))
    (row-marked c.in-Some.row.now c.args.marks.now c.mark_courses.new.marks r
    (subst (λ ds. OnOk r ((es : List Waiting) → MarksMore (wants_some ds) es c.args.marks.now c.mark_courses.new.marks)) c.as_slice.ensures c.mark_courses.ensures.more))

pub returns-in-Some-clause-only : goal.returns-in-Some-clause-only
returns-in-Some-clause-only c =
    let r = c.mark_courses.result in
    subst (λ o. OnOk r ((es : List Waiting) → MarksOnly (concerns None o) es c.args.marks.now c.mark_courses.new.marks)) (sym (ap option_copied c.in-Some.is))
    (row-only c.in-Some.row.now c.args.marks.now c.mark_courses.new.marks r
    (subst (λ ds. OnOk r ((es : List Waiting) → MarksOnly (wants_some ds) es c.args.marks.now c.mark_courses.new.marks)) c.as_slice.ensures c.mark_courses.ensures.only))
