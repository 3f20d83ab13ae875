-- The world at a path, with no copy of the world: only the roster differs.
use Rattle.std.specs.Prelude.{Bool, false, not, ◌==◌, List, [], ◌∷◌, filter}
use Rattle.std.specs.List.{list_any}
use Rattle.sect_base.specs.declared.limit.Level.TheVariants.{Course, Offering, Config, Section}
use Rattle.std.specs.Option.{option_map_or}
use Rattle.sect_model.specs.Data.{StudentId, CourseId, ReservationId, Choice, Level}
use Rattle.sect_model.specs.declared.held.Enrolment.{Enrolment}
use Rattle.sect_model.specs.World.{World, is_in, is_of, insert_enrolment}
use Rattle.sect_model.specs.Choice.{lists_section}

-- a world, and whose move it is
pub record Moment : Type 0 where
  pub at : World
  pub student : StudentId

-- the course is among those given up
abbrev pub is_given : List CourseId → CourseId → Bool
is_given give course = list_any (λ c. course.0 == c.0) give

-- the enrolment is the student's in a course given up
abbrev pub is_left : StudentId → List CourseId → Enrolment → Bool
is_left student give e = list_any (λ c. is_in student c e) give

-- an enrolment of the student
abbrev pub enrolment : StudentId → Choice → Enrolment
enrolment student choice = record { student = student; choice = choice }

-- the roster with the choices made
abbrev pub with_made : StudentId → List Choice → List Enrolment → List Enrolment
with_made student [] es = es
with_made student (c ∷ cs) es = with_made student cs (insert_enrolment (enrolment student c) es)

-- the roster after the courses given up have left and the choices were made
abbrev pub moved_roster : StudentId → List CourseId → List Choice → List Enrolment → List Enrolment
moved_roster student give done es = with_made student done (filter (λ e. not (is_left student give e)) es)

-- the world after the courses given up have left and the choices were made
abbrev pub moved : World → StudentId → List CourseId → List Choice → World
moved w student give done = record w { roster = moved_roster student give done w.roster }

-- a choice counts at the level
abbrev pub counts_at : World → Level → Choice → Bool
counts_at w (Course id) choice = choice.course.0 == id.0
counts_at w (Offering id) choice = is_of w id choice.course
counts_at w (Config id) choice = choice.config.0 == id.0
counts_at w (Section id) choice = lists_section choice.sections id

-- a choice is by the reservation
abbrev pub uses : ReservationId → Choice → Bool
uses id choice = option_map_or (λ r. r.0 == id.0) choice.reservation false
