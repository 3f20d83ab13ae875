-- Each turn marks one course more.
use Rattle.std.proofs.Common.{◌≤◌, arith, length, refl, subst}
use Rattle.std.proofs.lemmas.List.{take_all}
use Rattle.std.specs.Prelude.{◌==◌}
use Rattle.std.specs.List.{list_any}
use Rattle.sect_base.specs.declared.ids.CourseId.{CourseId}
use Rattle.sect_model.specs.declared.held.Waiting.{Waiting}
use Rattle.sect_wait.specs.Marked.{MarksMore, wants_one}
use Rattle.sect_wait.proofs.MarkLemmas.{course-marks}
use Rattle.sect_wait.proofs.OnlyLemmas.{course-only, each-only, same-only}
use Rattle.sect_wait.proofs.ToldLemmas.{each-marked, nobody-marked}
use Rattle.sect_wait.proofs.opened.mark_wanted.Goals as goal

pub loop-course-init : goal.loop-course-init
loop-course-init c = ((λ es. nobody-marked _ es c.args.marks.now (λ e. refl)), (λ es. same-only _ es c.args.marks.now))

pub loop-course-preserved : goal.loop-course-preserved
loop-course-preserved c = (
  (λ es.
      each-marked (λ (d : CourseId) (e : Waiting). list_any (λ a. d.0 == a.0) e.want.courses) c.args.courses.now c.loop-course.course-index _ es
      c.args.marks.now c.loop-course.marks c.mark_course.new.self c.loop-course-test.true (c.loop-course.invariant.0 es)
      (course-marks c.loop-course.marks c.mark_course.new.self _ es c.in_ok-mark_course.ensures.ok)),
  (λ es.
      each-only (λ (d : CourseId) (e : Waiting). list_any (λ a. d.0 == a.0) e.want.courses) c.args.courses.now c.loop-course.course-index _ es c.args.marks.now c.loop-course.marks c.mark_course.new.self c.loop-course-test.true (c.loop-course.invariant.1 es)
      (course-only c.loop-course.marks c.mark_course.new.self _ es c.in_ok-mark_course.ensures.ok)),
)

pub returns-clause-more : goal.returns-clause-more
returns-clause-more c = λ es.
    let cs = c.args.courses.now in
    let past : length cs ≤ c.loop-course.course-index = omega (arith, c.loop-course-test.false) in
    subst (λ ds. MarksMore (wants_one ds) es c.args.marks.now c.loop-course.marks) (take_all c.loop-course.course-index cs past) (c.loop-course.invariant.0 es)
