-- The credits of enrolments.
use Rattle.std.specs.Prelude.{ℕ, List, sum_by}
use Rattle.std.specs.Option.{option_map_or}
use Rattle.sect_base.specs.declared.ids.CourseId.{CourseId}
use Rattle.sect_catalog.specs.declared.row.OfferingRow.{OfferingRow}
use Rattle.sect_catalog.specs.Catalogue.{find_course}
use Rattle.sect_model.specs.declared.held.Enrolment.{Enrolment}

-- a course's credits in these rows, 0 where it is unknown
abbrev pub course_credits : List OfferingRow → CourseId → ℕ
course_credits rows course = option_map_or (λ c. c.credits) (find_course rows course) 0

-- the credits of the enrolments in these rows
abbrev pub all_credits : List OfferingRow → List Enrolment → ℕ
all_credits rows es = sum_by (λ e. course_credits rows e.choice.course) es
