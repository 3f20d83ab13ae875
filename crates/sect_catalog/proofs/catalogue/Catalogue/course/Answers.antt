-- What the index tells is what the look-up finds.
use Rattle.std.proofs.Common.{◌≡◌, ◌∙◌, ap, Bor, Option, Some, None, refl}
use Rattle.std.specs.Option.{option_map, option_and_then}
use Rattle.sect_catalog.specs.declared.row.OfferingRow.{OfferingRow}
use Rattle.sect_catalog.specs.declared.row.CourseRow.{CourseRow}
use Rattle.sect_catalog.specs.Catalogue.{find_course, offering_of_course}
use Rattle.sect_catalog.specs.Place.{course_at}
use Rattle.sect_catalog.proofs.LookupMore.{course-found, course-offering-found}
use Rattle.sect_catalog.proofs.catalogue.Catalogue.course.Goals as goal

second : (r : Option (Bor OfferingRow × Bor CourseRow)) → option_map (λ found. found.1.now) r ≡ option_map (λ (found : OfferingRow × CourseRow). found.1) (option_map (λ found. (found.0.now, found.1.now)) r)
second None = refl
second (Some r) = refl

first : (r : Option (Bor OfferingRow × Bor CourseRow)) → option_map (λ found. found.0.now) r ≡ option_map (λ (found : OfferingRow × CourseRow). found.0) (option_map (λ found. (found.0.now, found.1.now)) r)
first None = refl
first (Some r) = refl

pub returns-clause-course : goal.returns-clause-course
returns-clause-course c =
    let i = c.self.inside in
    second c.course_at.result
    ∙ ap (option_map (λ found. found.1)) (c.course_at.ensures
    ∙ (λ j. option_and_then (course_at (c.deref.ensures.value j)) ((c.course.ensures ∙ c.self.invariant.0.places (1, c.args.id.0)) j)))
    ∙ course-found c.args.id.0 i.rows.items
    ∙ ap (λ now. find_course now.rows c.args.id) c.self.view_is

pub returns-clause-offering : goal.returns-clause-offering
returns-clause-offering c =
    let i = c.self.inside in
    first c.course_at.result
    ∙ ap (option_map (λ found. found.0)) (c.course_at.ensures
    ∙ (λ j. option_and_then (course_at (c.deref.ensures.value j)) ((c.course.ensures ∙ c.self.invariant.0.places (1, c.args.id.0)) j)))
    ∙ course-offering-found c.args.id.0 i.rows.items
    ∙ ap (λ now. offering_of_course now.rows c.args.id) c.self.view_is
