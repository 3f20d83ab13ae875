-- The numbers of a world.
use Rattle.std.specs.Prelude.{◌≡◌, ℕ, Bool, true, false, ◌==◌, ◌&&◌, List, Option}
use Rattle.std.specs.Option.{is_some, option_map_or}
use Rattle.std.specs.List.{list_all}
use Rattle.sect_base.specs.declared.ids.OfferingId.{OfferingId}
use Rattle.sect_base.specs.declared.ids.ReservationId.{ReservationId}
use Rattle.sect_base.specs.declared.limit.Level.{Level}
use Rattle.sect_base.specs.declared.limit.Level.TheVariants.{Course, Offering, Config, Section}
use Rattle.sect_catalog.specs.declared.row.OfferingRow.{OfferingRow}
use Rattle.sect_catalog.specs.declared.row.CourseRow.{CourseRow}
use Rattle.sect_catalog.specs.declared.row.ConfigRow.{ConfigRow}
use Rattle.sect_catalog.specs.declared.row.SubpartRow.{SubpartRow}
use Rattle.sect_catalog.specs.declared.row.SectionRow.{SectionRow}
use Rattle.sect_catalog.specs.Catalogue.{find_offering, find_course, find_config, find_section}
use Rattle.sect_model.specs.declared.held.Enrolment.{Enrolment}
use Rattle.sect_model.specs.World.{World, reservation_of}
use Rattle.sect_model.specs.Counts.{count_of, counted_of, used_of}
use Rattle.sect_numbers.specs.declared.tally.Counts.{Counts}
use Rattle.sect_numbers.specs.declared.tally.Turn.{Turn}
use Rattle.sect_numbers.specs.declared.numbers.Numbers.{Numbers}
use Rattle.sect_numbers.specs.Tally.{counts_at, has_row, ids_with_rows, Steps, IsSmall, are_apart, is_among}

-- ---- what the world has

-- the counts of a level
abbrev pub counts_of : World → Level → Counts
counts_of w level = record { count = count_of w level; counted = counted_of w level }

-- the uses of a reservation, as counts
abbrev pub uses_of : World → ReservationId → Counts
uses_of w id = record { count = used_of w id; counted = 0 }

-- the level is known
abbrev pub is_known : World → Level → Bool
is_known w (Course id) = is_some (find_course w.catalogue.rows id)
is_known w (Offering id) = is_some (find_offering w.catalogue.rows id)
is_known w (Config id) = is_some (find_config w.catalogue.rows id)
is_known w (Section id) = is_some (find_section w.catalogue.rows id)

-- ---- what the numbers have

-- the counts that are kept of a level
abbrev pub counts_in : Numbers → Level → Counts
counts_in n (Course id) = counts_at n.courses id.0
counts_in n (Offering id) = counts_at n.offerings id.0
counts_in n (Config id) = counts_at n.configs id.0
counts_in n (Section id) = counts_at n.sections id.0

-- the uses that are kept of a reservation
abbrev pub uses_in : Numbers → ReservationId → Counts
uses_in n id = counts_at n.uses id.0

-- a count of the reservation's uses is kept
abbrev pub has_uses : Numbers → ReservationId → Bool
has_uses n id = has_row n.uses id.0

-- the reservations of which a count of uses is kept
abbrev pub counted_ids : Numbers → List ℕ
counted_ids n = ids_with_rows n.uses

-- the level has a row
abbrev pub has_level : Numbers → Level → Bool
has_level n (Course id) = has_row n.courses id.0
has_level n (Offering id) = has_row n.offerings id.0
has_level n (Config id) = has_row n.configs id.0
has_level n (Section id) = has_row n.sections id.0

-- the numbers are the world's, of each level and reservation, known or not; and each known one has its row
pub record Told (n : Numbers) (w : World) : Type 0 where
  pub counts : (level : Level) → counts_in n level ≡ counts_of w level
  pub uses : (id : ReservationId) → uses_in n id ≡ uses_of w id
  pub levels : (level : Level) → is_known w level ≡ true → has_level n level ≡ true
  pub reservations : (id : ReservationId) → is_some (reservation_of w id) ≡ true → has_row n.uses id.0 ≡ true

-- ---- a step of the numbers

-- the enrolment is by the reservation
abbrev pub is_by : Enrolment → ℕ → Bool
is_by e id = option_map_or (λ r. r.0 == id) e.choice.reservation false

-- what a step of the numbers needs: each level of the enrolment, and its reservation, have rows with room for one more
pub record Ready (n : Numbers) (e : Enrolment) (offering : Option OfferingId) : Type 0 where
  pub course : has_row n.courses e.choice.course.0 ≡ true
  pub its_offering : option_map_or (λ o. has_row n.offerings o.0) offering true ≡ true
  pub config : has_row n.configs e.choice.config.0 ≡ true
  pub sections : list_all (λ s. has_row n.sections s.0) e.choice.sections ≡ true
  pub apart : are_apart e.choice.sections ≡ true
  pub reservation : option_map_or (λ r. has_row n.uses r.0) e.choice.reservation true ≡ true
  pub courses_small : (q : ℕ) → IsSmall (counts_at n.courses q)
  pub offerings_small : (q : ℕ) → IsSmall (counts_at n.offerings q)
  pub configs_small : (q : ℕ) → IsSmall (counts_at n.configs q)
  pub sections_small : (q : ℕ) → IsSmall (counts_at n.sections q)
  pub uses_small : (q : ℕ) → IsSmall (counts_at n.uses q)

-- the numbers took the step at the levels of the enrolment and at its reservation
pub record Moves (n m : Numbers) (turn : Turn) (e : Enrolment) (offering : Option OfferingId) (over : Bool) : Type 0 where
  pub course : Steps n.courses m.courses turn over (λ q. e.choice.course.0 == q)
  pub its_offering : Steps n.offerings m.offerings turn over (λ q. option_map_or (λ o. o.0 == q) offering false)
  pub config : Steps n.configs m.configs turn over (λ q. e.choice.config.0 == q)
  pub sections : Steps n.sections m.sections turn over (is_among e.choice.sections)
  pub reservation : Steps n.uses m.uses turn true (is_by e)

-- ---- more rows

-- the counts stay, and no row goes
pub record Grown (n m : Numbers) : Type 0 where
  pub counts : (level : Level) → counts_in m level ≡ counts_in n level
  pub uses : (id : ReservationId) → uses_in m id ≡ uses_in n id
  pub levels : (level : Level) → has_level n level ≡ true → has_level m level ≡ true
  pub reservations : (id : ReservationId) → has_row n.uses id.0 ≡ true → has_row m.uses id.0 ≡ true

-- each course has a row
abbrev pub have_courses : Numbers → List CourseRow → Bool
have_courses n rows = list_all (λ c. has_level n (Course c.id)) rows

-- each section has a row
abbrev pub have_sections : Numbers → List SectionRow → Bool
have_sections n rows = list_all (λ s. has_level n (Section s.id)) rows

-- each section of the subparts has a row
abbrev pub have_subparts : Numbers → List SubpartRow → Bool
have_subparts n rows = list_all (λ p. have_sections n p.sections) rows

-- each configuration has a row, and each of its sections
abbrev pub have_configs : Numbers → List ConfigRow → Bool
have_configs n rows = list_all (λ g. has_level n (Config g.id) && have_subparts n g.subparts) rows

-- the offering has a row, and each of its courses, configurations and sections
abbrev pub has_offering : Numbers → OfferingRow → Bool
has_offering n o = has_level n (Offering o.id) && have_courses n o.courses && have_configs n o.configs
