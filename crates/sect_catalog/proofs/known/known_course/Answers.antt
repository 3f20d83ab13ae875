-- One course more.
use Rattle.std.proofs.Common.{◌≡◌, sym, ◌∙◌, get_or, map, false, ◌∷◌, []}
use Rattle.std.proofs.lemmas.List.{get_or_default}
use Rattle.sect_base.specs.declared.limit.Limit.TheVariants.{Unlimited}
use Rattle.sect_catalog.specs.declared.row.CourseRow.{CourseRow}
use Rattle.sect_catalog.specs.Place.{is_taken}
use Rattle.sect_catalog.proofs.KnownLemmas.{first_id, first-each, refused}
use Rattle.sect_catalog.proofs.SearchLemmas.{passed}
use Rattle.sect_catalog.proofs.known.known_course.Goals as goal

pub loop-course-preserved : goal.loop-course-preserved
loop-course-preserved c =
    let d : CourseRow = record { id = record { 0 = 0 }; limit = Unlimited; credits = 0 } in
    let x : CourseRow = get_or c.args.courses.now c.loop-course.course-index d in
    let free : is_taken c.args.index.now c.args.row.now (1, x.id.0) ≡ false = sym c.is_taken.ensures ∙ c.if-is_taken.false in
    passed (λ cs. first_id (is_taken c.args.index.now c.args.row.now) (map (λ c. (1, c.id.0)) cs)) (λ x. first_id (is_taken c.args.index.now c.args.row.now) ((1, x.id.0) ∷ []))
    (first-each (is_taken c.args.index.now c.args.row.now) (λ c. (1, c.id.0)))
    (first_id (is_taken c.args.index.now c.args.row.now) (map (λ c. (1, c.id.0)) c.args.courses.now)) c.args.courses.now c.loop-course.course-index x
    c.loop-course-test.true (get_or_default c.args.courses.now c.loop-course.course-index d x c.loop-course-test.true) c.loop-course.invariant
    (refused (is_taken c.args.index.now c.args.row.now) (1, x.id.0) free)
