-- The entries that a command may give a move, or whose spent searches it touches: what marks them before it acts, and after it.
use Rattle.std.specs.Prelude.{◌≡◌, ℕ, ◌-◌, ◌==◌, ◌||◌, ◌&&◌, Bool, false, List, [], ◌∷◌, ◌++◌, length, slice_get, Option, None, Some}
use Rattle.std.specs.List.{list_any}
use Rattle.std.specs.Option.{option_and_then}
use Rattle.sect_catalog.specs.Catalogue.{find_offering, offering_of_section}
use Rattle.sect_command.specs.declared.command.Command.{Command}
use Rattle.sect_command.specs.declared.command.Command.TheVariants.{Offering, Student as student_row, Requests, Reserve, Unreserve, Expire, Restrict, Unrestrict, SetLimit, Cancel, Enrol, Drop, Swap, Wait, Unwait, Batch}
use Rattle.sect_command.specs.declared.reply.Line.{Line}
use Rattle.sect_command.specs.declared.reply.LineResult.{LineResult}
use Rattle.sect_command.specs.declared.reply.LineResult.TheVariants.{Met, Held, Blocked as line_blocked, Spent as line_spent, Waiting as line_waits, Skipped}
use Rattle.sect_command.specs.declared.reply.Reply.{Reply}
use Rattle.sect_command.specs.declared.reply.Reply.TheVariants.{Amended, Enrolled, Dropped, Swapped, Waiting as waits, Placed, Batched, Blocked, Spent, Refused}
use Rattle.sect_model.specs.Data.{StudentId, CourseId, SectionId, ReservationId, RestrictionId, OfferingRow, Reservation, Choice}
use Rattle.sect_model.specs.declared.held.Waiting.{Waiting}
use Rattle.sect_model.specs.declared.change.Change.TheVariants.{Cap as new_cap, Enrol as new_enrolment, Leave}
use Rattle.sect_model.specs.World.{World, reservation_of}
use Rattle.sect_model.specs.Allowed.{reservations_of}
use Rattle.sect_model.specs.Refusals.{restriction_of}
use Rattle.sect_model.specs.Freer.{flips, may_open, wants}
use Rattle.sect_space.specs.declared.back.Back.{Back}
use Rattle.sect_space.specs.Back.{back_of, mark_of}
use Rattle.sect_wait.specs.Marked.{concerns, is_noted, is_noted_in, may_need}

-- the offering of a reservation
abbrev pub reserved_in : World → ReservationId → Option OfferingRow
reserved_in w id = option_and_then (λ r. find_offering w.catalogue.rows r.offering) (reservation_of w id)

-- the offering in which a section stands
abbrev pub sectioned_in : World → SectionId → Option OfferingRow
sectioned_in w id = offering_of_section w.catalogue.rows id

-- the offering of a restriction
abbrev pub restricted_in : World → RestrictionId → Option OfferingRow
restricted_in w id = option_and_then (λ r. find_offering w.catalogue.rows r.offering) (restriction_of w id)

-- the reservation is of a wanted offering, and begins or ends on the way to the day
abbrev pub flip_opens : World → ℕ → Reservation → Waiting → Bool
flip_opens w day r e = wants w e.want r.offering && flips w day r

-- a reservation of the offering does
abbrev pub flip_opens_of : World → ℕ → OfferingRow → Waiting → Bool
flip_opens_of w day o e = list_any (λ r. flip_opens w day r e) (reservations_of w o.id)

-- what a command may open whose change is known before it acts; a cancelled section touches the spent searches of those who want
-- its offering
abbrev pub opens : World → List ℕ → Command → Waiting → Bool
opens w spent (Offering row) e = false
opens w spent (student_row row) e = concerns (Some row.id) None e
opens w spent (Requests student asks) e = concerns (Some student) None e
opens w spent (Reserve row) e = concerns None (find_offering w.catalogue.rows row.offering) e
opens w spent (Unreserve id) e = concerns None (reserved_in w id) e
opens w spent (Expire id expiry) e = concerns None (reserved_in w id) e
opens w spent (Restrict row) e = concerns None (find_offering w.catalogue.rows row.offering) e
opens w spent (Unrestrict id) e = concerns None (restricted_in w id) e
opens w spent (SetLimit cap limit) e = false
opens w spent (Cancel id) e = is_noted_in spent (sectioned_in w id) e
opens w spent (Enrol student want budget) e = false
opens w spent (Drop student course) e = may_open w e (Leave student course)
opens w spent (Swap student give take budget) e = false
opens w spent (Wait student want give class) e = false
opens w spent (Unwait student ticket) e = false
opens w spent (Batch students) e = false

-- an enrolment that was made may open or touch what its change may
abbrev pub enrolled_opens : World → List ℕ → StudentId → Reply → Waiting → Bool
enrolled_opens w spent student Amended e = false
enrolled_opens w spent student (Enrolled choice) e = may_need w (is_noted spent e) e (new_enrolment (record { student = student; choice = choice }))
enrolled_opens w spent student (Dropped course) e = false
enrolled_opens w spent student (Swapped choices) e = false
enrolled_opens w spent student (waits ticket) e = false
enrolled_opens w spent student (Placed ticket choice) e = false
enrolled_opens w spent student (Batched lines) e = false
enrolled_opens w spent student (Blocked visits tree) e = false
enrolled_opens w spent student (Spent budget) e = false
enrolled_opens w spent student (Refused refusal) e = false

-- what leaving these courses may open
abbrev pub leaving_opens : World → StudentId → List CourseId → Waiting → Bool
leaving_opens w student courses e = list_any (λ c. may_open w e (Leave student c)) courses

-- what enrolling by these choices may open
abbrev pub taking_opens : World → List ℕ → StudentId → List Choice → Waiting → Bool
taking_opens w spent student choices e = list_any (λ c. may_need w (is_noted spent e) e (new_enrolment (record { student = student; choice = c }))) choices

-- a swap that was made may open what its leavings and its enrolments may
abbrev pub swap_opens : World → List ℕ → StudentId → List CourseId → Reply → Waiting → Bool
swap_opens w spent student give Amended e = false
swap_opens w spent student give (Enrolled choice) e = false
swap_opens w spent student give (Dropped course) e = false
swap_opens w spent student give (Swapped choices) e = leaving_opens w student give e || taking_opens w spent student choices e
swap_opens w spent student give (waits ticket) e = false
swap_opens w spent student give (Placed ticket choice) e = false
swap_opens w spent student give (Batched lines) e = false
swap_opens w spent student give (Blocked visits tree) e = false
swap_opens w spent student give (Spent budget) e = false
swap_opens w spent student give (Refused refusal) e = false

-- a line of a batch that is met may open what its enrolment may, and one that waits is the entry of its ticket
abbrev pub result_opens : World → List ℕ → StudentId → LineResult → Waiting → Bool
result_opens w spent student (Met choice) e = may_need w (is_noted spent e) e (new_enrolment (record { student = student; choice = choice }))
result_opens w spent student (Held course) e = false
result_opens w spent student (line_blocked visits tree) e = false
result_opens w spent student line_spent e = false
result_opens w spent student (line_waits ticket) e = ticket == e.ticket
result_opens w spent student Skipped e = false

-- what one of the lines may open
abbrev pub lines_open : World → List ℕ → List Line → Waiting → Bool
lines_open w spent lines e = list_any (λ l. result_opens w spent l.student l.result e) lines

-- a batch may open what its lines may
abbrev pub batch_opens : World → List ℕ → Reply → Waiting → Bool
batch_opens w spent Amended e = false
batch_opens w spent (Enrolled choice) e = false
batch_opens w spent (Dropped course) e = false
batch_opens w spent (Swapped choices) e = false
batch_opens w spent (waits ticket) e = false
batch_opens w spent (Placed ticket choice) e = false
batch_opens w spent (Batched lines) e = lines_open w spent lines e
batch_opens w spent (Blocked visits tree) e = false
batch_opens w spent (Spent budget) e = false
batch_opens w spent (Refused refusal) e = false

-- the offering that the change recorded last concerns
abbrev pub last_offering : World → List Back → Option OfferingRow
last_offering w backs =
    option_and_then (λ id. find_offering w.catalogue.rows id) (option_and_then (λ b. (mark_of b).offering) (slice_get backs (length backs - 1)))

-- where the command sets a limit, that change was recorded last
abbrev pub RecordsLimit : World → Command → List Back → List Back → Type 0
RecordsLimit w (Offering row) before after = Unit {0}
RecordsLimit w (student_row row) before after = Unit {0}
RecordsLimit w (Requests student asks) before after = Unit {0}
RecordsLimit w (Reserve row) before after = Unit {0}
RecordsLimit w (Unreserve id) before after = Unit {0}
RecordsLimit w (Expire id expiry) before after = Unit {0}
RecordsLimit w (Restrict row) before after = Unit {0}
RecordsLimit w (Unrestrict id) before after = Unit {0}
RecordsLimit w (SetLimit cap limit) before after = after ≡ before ++ back_of w (new_cap cap limit) ∷ []
RecordsLimit w (Cancel id) before after = Unit {0}
RecordsLimit w (Enrol student want budget) before after = Unit {0}
RecordsLimit w (Drop student course) before after = Unit {0}
RecordsLimit w (Swap student give take budget) before after = Unit {0}
RecordsLimit w (Wait student want give class) before after = Unit {0}
RecordsLimit w (Unwait student ticket) before after = Unit {0}
RecordsLimit w (Batch students) before after = Unit {0}

-- the entry is the one that joined
abbrev pub is_joined : Reply → Waiting → Bool
is_joined Amended e = false
is_joined (Enrolled choice) e = false
is_joined (Dropped course) e = false
is_joined (Swapped choices) e = false
is_joined (waits ticket) e = ticket == e.ticket
is_joined (Placed ticket choice) e = false
is_joined (Batched lines) e = false
is_joined (Blocked visits tree) e = false
is_joined (Spent budget) e = false
is_joined (Refused refusal) e = false

-- what a command may have opened, by its reply and what is recorded, in the world after it
abbrev pub opened : World → List ℕ → List Back → Command → Reply → Waiting → Bool
opened w spent backs (Offering row) reply e = false
opened w spent backs (student_row row) reply e = false
opened w spent backs (Requests student asks) reply e = false
opened w spent backs (Reserve row) reply e = false
opened w spent backs (Unreserve id) reply e = false
opened w spent backs (Expire id expiry) reply e = false
opened w spent backs (Restrict row) reply e = false
opened w spent backs (Unrestrict id) reply e = false
opened w spent backs (SetLimit cap limit) reply e = concerns None (last_offering w backs) e
opened w spent backs (Cancel id) reply e = false
opened w spent backs (Enrol student want budget) reply e = enrolled_opens w spent student reply e
opened w spent backs (Drop student course) reply e = false
opened w spent backs (Swap student give take budget) reply e = swap_opens w spent student give reply e
opened w spent backs (Wait student want give class) reply e = is_joined reply e
opened w spent backs (Unwait student ticket) reply e = false
opened w spent backs (Batch students) reply e = batch_opens w spent reply e
