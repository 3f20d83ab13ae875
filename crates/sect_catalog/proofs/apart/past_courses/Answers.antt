-- one course that doesn't rise
use Rattle.std.proofs.Common.{◌∙◌, get_or, map}
use Rattle.std.proofs.lemmas.List.{get_or_default}
use Rattle.sect_base.specs.declared.limit.Limit.TheVariants.{Unlimited}
use Rattle.sect_catalog.specs.declared.row.CourseRow.{CourseRow}
use Rattle.sect_catalog.specs.Apart.{past, past_all}
use Rattle.sect_catalog.proofs.ApartLemmas.{stopped, past-each}
use Rattle.sect_catalog.proofs.apart.past_courses.Goals as goal

pub returns-in_err-floors : goal.returns-in_err-floors
returns-in_err-floors c =
    let d : CourseRow = record { id = record { 0 = 0 }; limit = Unlimited; credits = 0 } in
    let x : CourseRow = get_or c.args.courses.now c.loop-course.course-index d in
    c.from_residual.ensures
    ∙ stopped (λ f cs. past_all f (map (λ c. (1, c.id.0)) cs)) (λ f c. past f (1, c.id.0)) (past-each (λ c. (1, c.id.0)))
    (past_all c.args.floors (map (λ c. (1, c.id.0)) c.args.courses.now)) c.past.result c.loop-course.floors c.args.courses.now c.loop-course.course-index x
    c.loop-course-test.true (get_or_default c.args.courses.now c.loop-course.course-index d x c.loop-course-test.true) c.loop-course.invariant c.past.ensures c.in_err-floors.was
