-- The refusal of a command with a text has one: its ids are of the command, its ticket of who waits, and its counts are told as numbers of 32 bits.
use Rattle.std.specs.Prelude.{ℕ, ◌≤◌, Bool, true, false, not, ◌&&◌, ◌||◌, ◌==◌, nat_lt, cond, List, [], ◌∷◌, ◌++◌, length, map, filter, find, flat_map, Option, Some, None}
use Rattle.std.specs.List.{list_any}
use Rattle.std.specs.Bool.{then_some}
use Rattle.std.specs.Option.{option_map, option_or, option_and_then, option_to_list, is_none, is_some}
use Rattle.std.proofs.Common.{arith}
use Rattle.sect_base.specs.Capped.{capped}
use Rattle.sect_base.specs.declared.limit.Cap.TheVariants.{Course as cap_course, Config as cap_config, Section as cap_section}
use Rattle.sect_people.specs.declared.row.Ask.TheVariants.{Course as asks_course, Free}
use Rattle.sect_people.specs.declared.row.RequestFault.TheVariants.{UnknownCourse, Twice, TooMany as many_requests}
use Rattle.sect_people.specs.Fault as requests
use Rattle.sect_catalog.specs.Fault as rows
use Rattle.sect_catalog.specs.Catalogue.{Catalogue, find_course, find_section, find_offering, has_course}
use Rattle.sect_catalog.specs.declared.row.CatalogFault.TheVariants.{Known as known_row, NoCourse, NoConfig, NoSubpart, NoSection, BadParent, TooMany as many_rows}
use Rattle.sect_reserve.specs.declared.row.Audience.TheVariants.{Students, Group, Curriculum as of_curriculum, Course as of_course}
use Rattle.sect_reserve.specs.declared.row.ReserveFault.{ReserveFault}
use Rattle.sect_reserve.specs.declared.row.ReserveFault.TheVariants.{Known, Foreign, NoGroup, TooMany as many_listed}
use Rattle.sect_command.specs.declared.command.Command.{Command}
use Rattle.sect_command.specs.declared.command.Command.TheVariants.{Offering, Student as student_row, Requests, Reserve, Unreserve, Expire, Restrict, Unrestrict, SetLimit, Cancel, Enrol, Drop, Swap, Wait, Unwait, Batch}
use Rattle.sect_command.specs.declared.reply.Refusal.{Refusal}
use Rattle.sect_command.specs.declared.reply.Refusal.TheVariants.{NotYours, Unknown, EmptyWant, TooMany, NotEnrolled, WaitingAlready, NotWaiting, LimitBelow, InUse, Row}
use Rattle.sect_command.specs.declared.reply.RowFault.TheVariants.{Offering as offering_fault, Request as request_fault, Reserve as reserve_fault}
use Rattle.sect_model.specs.Data.{Caller, StudentId, CourseId, SectionId, ConfigId, Cap, Want, Audience, OfferingRow, ConfigRow, SubpartRow, SectionRow, Ask}
use Rattle.sect_model.specs.World.{World, State, course_ids, reservation_of, holds}
use Rattle.sect_model.specs.Batch.{ticket_of, share_course}
use Rattle.sect_model.specs.Refusals
use Rattle.sect_wire.specs.Fits.{Fits32, FitsList, FitsOptional, FitsCourse, FitsConfig, FitsSection, FitsStudent, FitsCap, FitsWant, FitsAsk, FitsAudience, FitsOfferingRow, FitsCourseRow, FitsConfigRow, FitsSubpartRow, FitsSectionRow, FitsCatalogFault, FitsRequestFault, FitsReserveFault, FitsRefusal, FitsCommand}
use Rattle.sect_rows.specs.States.{FitsState, FitsWaiting}
use Rattle.sect_rows.proofs.Each.{each-append, each-filter, each-map, each-flat_map, fits-found, fits-map, fits-or, fits-then}
use Rattle.sect_rows.proofs.Leaves.{least-most}

abbrev MayRefuse : Option Refusal → Type 0
MayRefuse = FitsOptional FitsRefusal

pub capped-fits : (n : ℕ) → capped n ≤ 4294967295
capped-fits n = omega arith

-- ---- the faults of rows

abbrev HasNumber : ℕ × ℕ → Type 0
HasNumber id = Fits32 id.1

subpart-ids : (p : SubpartRow) → FitsSubpartRow p → FitsList HasNumber (rows.subpart_ids p)
subpart-ids p h = (h.0, each-map FitsSectionRow HasNumber (λ s. (4, s.id.0)) p.sections (λ s h. h.0) h.1)

config-ids : (g : ConfigRow) → FitsConfigRow g → FitsList HasNumber (rows.config_ids g)
config-ids g h = (h.0, each-flat_map FitsSubpartRow HasNumber rows.subpart_ids g.subparts subpart-ids h.2)

row-ids : (o : OfferingRow) → FitsOfferingRow o → FitsList HasNumber (rows.row_ids o)
row-ids o h = (
  h.0,
  each-append HasNumber (map (λ c. (1, c.id.0)) o.courses) (flat_map rows.config_ids o.configs)
      (each-map FitsCourseRow HasNumber (λ c. (1, c.id.0)) o.courses (λ c h. h.0) h.1) (each-flat_map FitsConfigRow HasNumber rows.config_ids o.configs config-ids h.2),
)

parent-after : (earlier : List SectionRow) (ps : List SubpartRow) → FitsList FitsSubpartRow ps → FitsOptional Fits32 (rows.bad_parent_after earlier ps)
parent-after earlier [] h = tt
parent-after earlier (p ∷ ps) h =
    fits-or Fits32 _ (rows.bad_parent_after (earlier ++ p.sections) ps)
    (fits-map FitsSectionRow Fits32 (λ s. s.id.0) (find _ p.sections) (λ s h. h.0) (fits-found FitsSectionRow _ p.sections h.0.1))
    (parent-after (earlier ++ p.sections) ps h.1)

bad-parent : (gs : List ConfigRow) → FitsList FitsConfigRow gs → FitsOptional Fits32 (rows.bad_parent gs)
bad-parent [] h = tt
bad-parent (g ∷ gs) h = fits-or Fits32 (rows.bad_parent_after [] g.subparts) (rows.bad_parent gs) (parent-after [] g.subparts h.0.2) (bad-parent gs h.1)

any-count : (o : Option ℕ) → FitsOptional FitsCatalogFault (option_map (λ n. many_rows (capped n)) o)
any-count None = tt
any-count (Some n) = capped-fits n

row-fault : (c : Catalogue) (o : OfferingRow) → FitsOfferingRow o → FitsOptional FitsCatalogFault (rows.fault_of c o)
row-fault c o h =
    fits-or FitsCatalogFault (option_map known_row (rows.known_id c o)) _
    (fits-map Fits32 FitsCatalogFault known_row (rows.known_id c o) (λ n h. h) (fits-map HasNumber Fits32 (λ id. id.1) (find (λ id. list_any (rows.same_kind id) (flat_map rows.row_ids c.rows) || rows.stands_twice (rows.row_ids o) id) (rows.row_ids o)) (λ id h. h)
    (fits-found HasNumber (λ id. list_any (rows.same_kind id) (flat_map rows.row_ids c.rows) || rows.stands_twice (rows.row_ids o) id) (rows.row_ids o) (row-ids o h))))
    (fits-or FitsCatalogFault (then_some (rows.is_empty o.courses) NoCourse) _ (fits-then FitsCatalogFault (rows.is_empty o.courses) NoCourse tt)
    (fits-or FitsCatalogFault (then_some (rows.is_empty o.configs) NoConfig) _ (fits-then FitsCatalogFault (rows.is_empty o.configs) NoConfig tt)
    (fits-or FitsCatalogFault (option_map (λ g. NoSubpart g.id.0) (find (λ g. rows.is_empty g.subparts) o.configs)) _
    (fits-map FitsConfigRow FitsCatalogFault (λ g. NoSubpart g.id.0) (find (λ g. rows.is_empty g.subparts) o.configs) (λ g h. h.0) (fits-found FitsConfigRow (λ g. rows.is_empty g.subparts) o.configs h.2))
    (fits-or FitsCatalogFault (option_map (λ p. NoSection p.id.0) (find (λ p. rows.is_empty p.sections) (flat_map (λ g. g.subparts) o.configs))) _
    (fits-map FitsSubpartRow FitsCatalogFault (λ p. NoSection p.id.0) (find (λ p. rows.is_empty p.sections) (flat_map (λ g. g.subparts) o.configs)) (λ p h. h.0)
    (fits-found FitsSubpartRow (λ p. rows.is_empty p.sections) (flat_map (λ g. g.subparts) o.configs) (each-flat_map FitsConfigRow FitsSubpartRow (λ g. g.subparts) o.configs (λ g h. h.2) h.2)))
    (fits-or FitsCatalogFault (option_map BadParent (rows.bad_parent o.configs)) (option_map (λ n. many_rows (capped n)) (rows.too_many c o))
    (fits-map Fits32 FitsCatalogFault BadParent (rows.bad_parent o.configs) (λ n h. h) (bad-parent o.configs h.2))
    (any-count (rows.too_many c o)))))))

-- ---- the faults of requests

asked-courses : (a : Ask) → FitsAsk a → FitsList FitsCourse (requests.courses_of a)
asked-courses (asks_course ask) h = h
asked-courses (Free pattern) h = tt

repeated : (earlier cs : List CourseId) → FitsList FitsCourse cs → FitsOptional Fits32 (requests.repeated_after earlier cs)
repeated earlier [] h = tt
repeated earlier (c ∷ cs) h = by_test (list_any (λ e. e.0 == c.0) earlier) (repeated (c ∷ earlier) cs h.1)
  where
    by_test : (b : Bool) → FitsOptional Fits32 (requests.repeated_after (c ∷ earlier) cs) → FitsOptional Fits32 (cond b (Some c.0) (requests.repeated_after (c ∷ earlier) cs))
    by_test true rest = h.0
    by_test false rest = rest

any-length : (o : Option ℕ) → FitsOptional FitsRequestFault (option_map (λ n. many_requests (capped n)) o)
any-length None = tt
any-length (Some n) = capped-fits n

request-fault : (asks : List Ask) (known : List CourseId) → FitsList FitsAsk asks → FitsOptional FitsRequestFault (requests.fault_of asks known)
request-fault asks known h =
    let all : FitsList FitsCourse (requests.courses_of_all asks) = each-flat_map FitsAsk FitsCourse requests.courses_of asks asked-courses h in
    fits-or FitsRequestFault (option_map (λ c. UnknownCourse c.0) (find (requests.is_unknown known) (requests.courses_of_all asks))) _
    (fits-map FitsCourse FitsRequestFault (λ c. UnknownCourse c.0) (find (requests.is_unknown known) (requests.courses_of_all asks)) (λ c h. h) (fits-found FitsCourse (requests.is_unknown known) (requests.courses_of_all asks) all))
    (fits-or FitsRequestFault (option_map Twice (requests.repeated_after [] (requests.courses_of_all asks))) _
    (fits-map Fits32 FitsRequestFault Twice (requests.repeated_after [] (requests.courses_of_all asks)) (λ n h. h) (repeated [] (requests.courses_of_all asks) all))
    (any-length (option_or (then_some (nat_lt 20 (length asks)) (length asks)) (requests.first_bad_length asks))))

-- ---- the faults of reservations and restrictions

foreign-course : (o : OfferingRow) (audience : Audience) → FitsAudience audience → FitsOptional Fits32 (Refusals.foreign_course o audience)
foreign-course o (of_course id) h = fits-then Fits32 (not (has_course o id)) id.0 h
foreign-course o (Students ids) h = tt
foreign-course o (Group id) h = tt
foreign-course o (of_curriculum area classes majors) h = tt

foreign : (o : OfferingRow) (audience : Audience) (configs : List ConfigId) (sections : List SectionId) → FitsAudience audience → FitsList FitsConfig configs → FitsList FitsSection sections
    → FitsOptional Fits32 (Refusals.foreign_in o audience configs sections)
foreign o audience configs sections h k l =
    fits-or Fits32 (option_map (λ c. c.0) (find (λ c. not (Refusals.lists_config (map (λ g. g.id) o.configs) c)) configs)) _
    (fits-map FitsConfig Fits32 (λ c. c.0) (find (λ c. not (Refusals.lists_config (map (λ g. g.id) o.configs) c)) configs) (λ c h. h) (fits-found FitsConfig (λ c. not (Refusals.lists_config (map (λ g. g.id) o.configs) c)) configs k))
    (fits-or Fits32 (option_map (λ s. s.0) (find (λ s. not (Refusals.section_fits o configs s)) sections)) (Refusals.foreign_course o audience)
    (fits-map FitsSection Fits32 (λ s. s.0) (find (λ s. not (Refusals.section_fits o configs s)) sections) (λ s h. h) (fits-found FitsSection (λ s. not (Refusals.section_fits o configs s)) sections l))
    (foreign-course o audience h))

reserve-fault : (id : ℕ) (used groups : Bool) (audience : Audience) (configs : List ConfigId) (sections : List SectionId) → Fits32 id → FitsAudience audience → FitsList FitsConfig configs → FitsList FitsSection sections
    → (o : OfferingRow) → FitsOptional FitsReserveFault (Refusals.reserve_fault_of o id used groups audience configs sections)
reserve-fault id used groups audience configs sections n h k l o =
    fits-or FitsReserveFault (then_some used (Known id)) _ (fits-then FitsReserveFault used (Known id) n)
    (fits-or FitsReserveFault (option_map Foreign (Refusals.foreign_in o audience configs sections)) _
    (fits-map Fits32 FitsReserveFault Foreign (Refusals.foreign_in o audience configs sections) (λ n h. h) (foreign o audience configs sections h k l))
    (fits-or FitsReserveFault (then_some (not groups && Refusals.is_group audience) NoGroup) _ (fits-then FitsReserveFault (not groups && Refusals.is_group audience) NoGroup tt)
    (fits-or FitsReserveFault (then_some (nat_lt 1000 (Refusals.students_listed audience)) (many_listed (capped (Refusals.students_listed audience)))) (then_some (nat_lt 1200 (length sections)) (many_listed (capped (length sections))))
    (fits-then FitsReserveFault _ (many_listed (capped (Refusals.students_listed audience))) (capped-fits (Refusals.students_listed audience)))
    (fits-then FitsReserveFault _ (many_listed (capped (length sections))) (capped-fits (length sections))))))

row-refused : (x : Option OfferingRow) (fault : OfferingRow → Option ReserveFault) → ((o : OfferingRow) → FitsOptional FitsReserveFault (fault o)) → MayRefuse (Refusals.row_refusal (option_and_then fault x))
row-refused None fault h = tt
row-refused (Some o) fault h = fits-map FitsReserveFault FitsRefusal (λ f. Row (reserve_fault f)) (fault o) (λ f h. h) (h o)

-- ---- what is unknown

module _ (w : World) where
  student-unknown : (id : StudentId) → FitsStudent id → MayRefuse (Refusals.unknown_student w id)
  student-unknown id h = fits-then FitsRefusal _ (Unknown id.0) h

  students-unknown : (ids : List StudentId) → FitsList FitsStudent ids → MayRefuse (Refusals.unknown_students w ids)
  students-unknown [] h = tt
  students-unknown (id ∷ ids) h = fits-or FitsRefusal (Refusals.unknown_student w id) (Refusals.unknown_students w ids) (student-unknown id h.0) (students-unknown ids h.1)

  courses-unknown : (ids : List CourseId) → FitsList FitsCourse ids → MayRefuse (Refusals.unknown_course w ids)
  courses-unknown [] h = tt
  courses-unknown (id ∷ ids) h = fits-or FitsRefusal _ (Refusals.unknown_course w ids) (fits-then FitsRefusal (is_none (find_course w.catalogue.rows id)) (Unknown id.0) h.0) (courses-unknown ids h.1)

  sections-unknown : (ids : List SectionId) → FitsList FitsSection ids → MayRefuse (Refusals.unknown_section w ids)
  sections-unknown [] h = tt
  sections-unknown (id ∷ ids) h = fits-or FitsRefusal _ (Refusals.unknown_section w ids) (fits-then FitsRefusal (is_none (find_section w.catalogue.rows id)) (Unknown id.0) h.0) (sections-unknown ids h.1)

  want-unknown : (want : Want) → FitsWant want → MayRefuse (Refusals.unknown_in_want w want)
  want-unknown want h = fits-or FitsRefusal (Refusals.unknown_course w want.courses) (Refusals.unknown_section w want.only) (courses-unknown want.courses h.0) (sections-unknown want.only h.1)

  wants-unknown : (wants : List Want) → FitsList FitsWant wants → MayRefuse (Refusals.unknown_in_wants w wants)
  wants-unknown [] h = tt
  wants-unknown (want ∷ wants) h = fits-or FitsRefusal (Refusals.unknown_in_want w want) (Refusals.unknown_in_wants w wants) (want-unknown want h.0) (wants-unknown wants h.1)

  cap-unknown : (cap : Cap) → FitsCap cap → MayRefuse (Refusals.unknown_cap w cap)
  cap-unknown (cap_course id) h = courses-unknown (id ∷ []) (h, tt)
  cap-unknown (cap_config id) h = fits-then FitsRefusal _ (Unknown id.0) h
  cap-unknown (cap_section id) h = sections-unknown (id ∷ []) (h, tt)

  not-enrolled : (student : StudentId) (earlier cs : List CourseId) → FitsList FitsCourse cs → MayRefuse (Refusals.not_enrolled_in w student earlier cs)
  not-enrolled student earlier [] h = tt
  not-enrolled student earlier (c ∷ cs) h =
      fits-or FitsRefusal _ (Refusals.not_enrolled_in w student (c ∷ earlier) cs) (fits-then FitsRefusal (not (holds w student c) || list_any (λ e. e.0 == c.0) earlier) (NotEnrolled c) h.0) (not-enrolled student (c ∷ earlier) cs h.1)

many : (limit n : ℕ) → MayRefuse (Refusals.too_many limit n)
many limit n = fits-then FitsRefusal (nat_lt limit n) (TooMany (capped n)) (capped-fits n)

many-want : (want : Want) → MayRefuse (Refusals.many_in_want want)
many-want want = fits-or FitsRefusal (Refusals.too_many 6 (length want.courses)) (Refusals.too_many 1200 (length want.only)) (many 6 (length want.courses)) (many 1200 (length want.only))

many-wants : (wants : List Want) → MayRefuse (Refusals.many_in_wants wants)
many-wants [] = tt
many-wants (want ∷ wants) = fits-or FitsRefusal (Refusals.many_in_want want) (Refusals.many_in_wants wants) (many-want want) (many-wants wants)

give-fits : (give : Option CourseId) → FitsOptional FitsCourse give → FitsList FitsCourse (option_to_list give)
give-fits None h = tt
give-fits (Some c) h = (h, tt)

-- a ticket of who waits
pub ticket-fits : (s : State) (most : ℕ) → FitsState most s → (student : StudentId) (courses : List CourseId) → FitsOptional (λ n. n ≤ most) (ticket_of s student courses)
ticket-fits s most f student courses =
    least-most most (map (λ e. e.ticket) (filter (λ e. e.student.0 == student.0 && share_course e.want.courses courses) s.entries))
    (each-map (FitsWaiting most) (λ n. n ≤ most) (λ e. e.ticket) (filter (λ e. e.student.0 == student.0 && share_course e.want.courses courses) s.entries) (λ e h. h.1)
    (each-filter (FitsWaiting most) (λ e. e.student.0 == student.0 && share_course e.want.courses courses) s.entries f.entries))

-- ---- each command

module _ (s : State) (most : ℕ) (f : FitsState most s) (small : most ≤ 18446744073709551615) where
  conditions-fit : (command : Command) → FitsCommand command → FitsList MayRefuse (Refusals.conditions_of s command)
  conditions-fit (Offering row) h = (fits-map FitsCatalogFault FitsRefusal (λ f. Row (offering_fault f)) (rows.fault_of s.world.catalogue row) (λ f h. h) (row-fault s.world.catalogue row h), tt)
  conditions-fit (student_row row) h = (fits-then FitsRefusal _ (TooMany 50001) (omega arith), (many 50 (length row.groups), (many 10 (length row.curricula), (fits-then FitsRefusal _ (LimitBelow (capped _)) (capped-fits _), tt))))
  conditions-fit (Requests student asks) h = (student-unknown s.world student h.0, (fits-map FitsRequestFault FitsRefusal (λ f. Row (request_fault f)) (requests.fault_of asks (course_ids s.world)) (λ f h. h) (request-fault asks (course_ids s.world) h.1), tt))
  conditions-fit (Reserve row) h = (fits-then FitsRefusal _ (Unknown row.offering.0) h.1, (fits-then FitsRefusal _ (TooMany 51) (omega arith), (row-refused (find_offering s.world.catalogue.rows row.offering) _ (reserve-fault row.id.0 (is_some (reservation_of s.world row.id)) true row.audience row.configs row.sections h.0 h.2 h.6 h.7), tt)))
  conditions-fit (Unreserve id) h = (fits-then FitsRefusal _ (Unknown id.0) h, (fits-then FitsRefusal _ (InUse (capped _)) (capped-fits _), tt))
  conditions-fit (Expire id expiry) h = (fits-then FitsRefusal _ (Unknown id.0) h.0, tt)
  conditions-fit (Restrict row) h = (fits-then FitsRefusal _ (Unknown row.offering.0) h.1, (fits-then FitsRefusal _ (TooMany 51) (omega arith), (row-refused (find_offering s.world.catalogue.rows row.offering) _ (reserve-fault row.id.0 (is_some (Refusals.restriction_of s.world row.id)) false row.audience row.configs row.sections h.0 h.2 h.3 h.4), tt)))
  conditions-fit (Unrestrict id) h = (fits-then FitsRefusal _ (Unknown id.0) h, tt)
  conditions-fit (SetLimit cap limit) h = (cap-unknown s.world cap h.0, (fits-then FitsRefusal _ (LimitBelow (capped _)) (capped-fits _), tt))
  conditions-fit (Cancel id) h = (sections-unknown s.world (id ∷ []) (h, tt), (fits-then FitsRefusal _ (InUse (capped _)) (capped-fits _), tt))
  conditions-fit (Enrol student want budget) h = (student-unknown s.world student h.0, (want-unknown s.world want h.1, (fits-then FitsRefusal _ EmptyWant tt, (many-want want, tt))))
  conditions-fit (Drop student course) h = (student-unknown s.world student h.0, (courses-unknown s.world (course ∷ []) (h.1, tt), (fits-then FitsRefusal _ (NotEnrolled course) h.1, tt)))
  conditions-fit (Swap student give take budget) h = (student-unknown s.world student h.0, (courses-unknown s.world give h.1, (wants-unknown s.world take h.2, (fits-then FitsRefusal _ EmptyWant tt, (many 4 (length give), (many 4 (length take), (many-wants take, (not-enrolled s.world student [] give h.1, tt))))))))
  conditions-fit (Wait student want give class) h = (student-unknown s.world student h.0, (want-unknown s.world want h.1, (courses-unknown s.world (option_to_list give) (give-fits give h.2), (fits-then FitsRefusal _ EmptyWant tt, (many-want want, (fits-then FitsRefusal _ (TooMany 10001) (omega arith), (not-enrolled s.world student [] (option_to_list give) (give-fits give h.2), (fits-map (λ n. n ≤ most) FitsRefusal WaitingAlready (ticket_of s student want.courses) (λ n h. omega (arith, h, small)) (ticket-fits s most f student want.courses), tt))))))))
  conditions-fit (Unwait student ticket) h = (student-unknown s.world student h.0, (fits-then FitsRefusal _ NotWaiting tt, tt))
  conditions-fit (Batch students) h = (students-unknown s.world students h, (many 100 (length students), (many 10000 _, tt)))

  first-fits : (rs : List (Option Refusal)) → FitsList MayRefuse rs → MayRefuse (Refusals.first_of rs)
  first-fits [] h = tt
  first-fits (r ∷ rs) h = fits-or FitsRefusal r (Refusals.first_of rs) h.0 (first-fits rs h.1)

  pub refusal-fits : (caller : Caller) (command : Command) → FitsCommand command → MayRefuse (Refusals.refusal_of s caller command)
  unfolding Refusals.refusal_of
  refusal-fits caller command h =
      first-fits (then_some (not (Refusals.is_yours caller command)) NotYours ∷ Refusals.conditions_of s command) (fits-then FitsRefusal _ NotYours tt, conditions-fit command h)
