-- What is decided at a node of a search: nothing for the next want, its course, its reservation, its configuration and sections.
use Rattle.std.specs.Prelude.{List, [], Option, Some, None}
use Rattle.std.specs.Option.{option_map_or}
use Rattle.sect_model.specs.Data.{CourseId, ReservationId, ConfigId, SectionId, Choice, Want, Move, Reservation, ConfigRow, SectionRow}
use Rattle.sect_model.specs.World.{World, offering_of}
use Rattle.sect_model.specs.Allowed.{reservations_of}
use Rattle.sect_model.specs.Path.{Path, next_subpart}
use Rattle.sect_model.specs.Rules.{world_at}
use Rattle.sect_moment.specs.Completed.{opened}

-- a want of a move in a world, behind choices that are complete
pub record Wanted : Type 0 where
  pub world : World
  pub mv : Move
  pub done : List Choice
  pub want : Want

-- a course decided on for a want
pub record OnCourse : Type 0 where
  pub wanted : Wanted
  pub course : CourseId

-- a reservation decided on, or that there is to be none
pub record Joined : Type 0 where
  pub on : OnCourse
  pub id : Option ReservationId

-- a configuration decided on, with the sections so far
pub record Configured : Type 0 where
  pub by : Joined
  pub config : ConfigId
  pub sections : List SectionId

-- the world at the choices, as the student meets it
abbrev pub met : Wanted → World
met v = world_at v.world v.mv (opened v.done)

-- the path with a course
abbrev pub course_path : OnCourse → Path
course_path v = record { done = v.wanted.done; course = Some v.course; reservation = None; config = None; sections = [] }

-- the path with a course and a reservation, or none
abbrev pub joined_path : Joined → Path
joined_path v = record { done = v.on.wanted.done; course = Some v.on.course; reservation = Some v.id; config = None; sections = [] }

-- the path with a course, a reservation or none, a configuration and sections
abbrev pub config_path : Configured → Path
config_path v = record { done = v.by.on.wanted.done; course = Some v.by.on.course; reservation = Some v.by.id; config = Some v.config; sections = v.sections }

-- the reservations of the course's offering
abbrev pub reservations_on : World → CourseId → List Reservation
reservations_on w course = option_map_or (λ o. reservations_of w o.id) (offering_of w course) []

-- the configurations of the course's offering
abbrev pub configs_on : World → CourseId → List ConfigRow
configs_on w course = option_map_or (λ o. o.configs) (offering_of w course) []

-- the sections of the next subpart
abbrev pub sections_on : World → CourseId → ConfigId → List SectionId → List SectionRow
sections_on w course config sections = option_map_or (λ p. p.sections) (next_subpart w course config sections) []
