-- What is kept of a change, the world after it is taken back, and what it concerns.
use Rattle.std.specs.Prelude.{ℕ, Bool, true, false, ◌-◌, ◌==◌, List, length, take, find, Option, None, Some}
use Rattle.std.specs.List.{position_or_len}
use Rattle.std.specs.Option.{option_map, option_map_or}
use Rattle.sect_base.specs.declared.limit.Cap.{Cap}
use Rattle.sect_base.specs.declared.limit.Cap.TheVariants.{Course as cap_course, Config as cap_config, Section as cap_section}
use Rattle.sect_base.specs.declared.ids.OfferingId.{OfferingId}
use Rattle.sect_base.specs.declared.ids.ConfigId.{ConfigId}
use Rattle.sect_base.specs.declared.ids.SectionId.{SectionId}
use Rattle.sect_base.specs.declared.ids.CourseId.{CourseId}
use Rattle.sect_base.specs.declared.ids.StudentId.{StudentId}
use Rattle.sect_base.specs.declared.ids.ReservationId.{ReservationId}
use Rattle.sect_catalog.specs.Catalogue.{offering_of_section}
use Rattle.sect_catalog.specs.Limits.{limit_in}
use Rattle.sect_people.specs.Student.{find_student}
use Rattle.sect_reserve.specs.declared.row.Reservation.{Reservation}
use Rattle.sect_reserve.specs.declared.row.Restriction.{Restriction}
use Rattle.sect_model.specs.declared.held.Enrolment.{Enrolment}
use Rattle.sect_model.specs.declared.change.Change.{Change}
use Rattle.sect_model.specs.declared.change.Change.TheVariants.{Offering, Student, Requests, Reserve, Unreserve, Expiry, Restrict, Unrestrict, Cap as new_cap, Cancelled, Day, Enrol, Leave}
use Rattle.sect_model.specs.World.{World, offering_of, reservation_of, is_in}
use Rattle.sect_model.specs.Allowed.{reservations_of, restrictions_of}
use Rattle.sect_model.specs.Refusals.{restriction_of}
use Rattle.sect_model.specs.Kept.{has_config}
use Rattle.sect_model.specs.Change.{put_student, put_asks, put_limit, put_expiry, drop_reservation, drop_restriction, put_day}
use Rattle.sect_roster.specs.Last.{drop_last_of}
use Rattle.sect_roster.specs.Slots.{put_among as put_among_its_own}
use Rattle.sect_roster.specs.Rostered.{of_student as own_of, put_among}
use Rattle.sect_space.specs.declared.back.Back.{Back}
use Rattle.sect_space.specs.declared.back.Back.TheVariants.{OfferingAdded, StudentAdded, StudentReplaced, RequestsReplaced, ReservationAdded, ReservationRemoved, ExpiryReplaced, RestrictionAdded, RestrictionRemoved, LimitReplaced, SectionCancelled, DayReplaced, Enrolled, Left}
use Rattle.sect_space.specs.declared.back.Mark.{Mark}

-- ---- the offering that a change concerns

-- the offering of a course
abbrev pub offering_id : World → CourseId → Option OfferingId
offering_id w course = option_map (λ o. o.id) (offering_of w course)

-- the offering in which the section stands
abbrev pub section_offering : World → SectionId → Option OfferingId
section_offering w id = option_map (λ o. o.id) (offering_of_section w.catalogue.rows id)

-- the offering that has the configuration
abbrev pub config_offering : World → ConfigId → Option OfferingId
config_offering w id = option_map (λ o. o.id) (find (λ o. has_config o id) w.catalogue.rows)

-- the offering whose limit this is
abbrev pub cap_offering : World → Cap → Option OfferingId
cap_offering w (cap_course id) = offering_id w id
cap_offering w (cap_config id) = config_offering w id
cap_offering w (cap_section id) = section_offering w id

-- the offering of a reservation
abbrev pub reservation_offering : World → ReservationId → Option OfferingId
reservation_offering w id = option_map (λ r. r.offering) (reservation_of w id)

-- ---- what is kept

-- a change of nothing
abbrev pub no_change : World → Back
no_change w = DayReplaced w.day w.day

-- what is kept of a change, so that it can be taken back
abbrev pub back_of : World → Change → Back
back_of w (Offering row) = OfferingAdded row.id
back_of w (Student row) = option_map_or StudentReplaced (option_map (λ s. s.row) (find_student w.students row.id)) (StudentAdded row.id)
back_of w (Requests student asks) = option_map_or (RequestsReplaced student) (option_map (λ s. s.asks) (find_student w.students student)) (no_change w)
back_of w (Reserve r) = ReservationAdded r.id r.offering
back_of w (Unreserve id) = option_map_or (λ r. ReservationRemoved (position_or_len (λ x. x.id.0 == id.0) (reservations_of w r.offering)) r) (reservation_of w id) (no_change w)
back_of w (Expiry id day) = option_map_or (ExpiryReplaced id (reservation_offering w id)) (option_map (λ r. r.expiry) (reservation_of w id)) (no_change w)
back_of w (Restrict r) = RestrictionAdded r.id r.offering
back_of w (Unrestrict id) = option_map_or (λ r. RestrictionRemoved (position_or_len (λ x. x.id.0 == id.0) (restrictions_of w r.offering)) r) (restriction_of w id) (no_change w)
back_of w (new_cap cap limit) = option_map_or (LimitReplaced cap (cap_offering w cap)) (limit_in w.catalogue.rows cap) (no_change w)
back_of w (Cancelled id) = SectionCancelled id (section_offering w id)
back_of w (Day day) = DayReplaced w.day day
back_of w (Enrol e) = Enrolled e.student (offering_id w e.choice.course)
back_of w (Leave student course) =
    option_map_or (λ e. Left (position_or_len (is_in student course) (own_of student.0 w.roster)) e (offering_id w course)) (find (is_in student course) w.roster) (no_change w)

-- it is kept of a change that enrols nobody, and by which nobody leaves
abbrev pub is_of_quiet : Back → Bool
is_of_quiet (OfferingAdded id) = true
is_of_quiet (StudentAdded id) = true
is_of_quiet (StudentReplaced row) = true
is_of_quiet (RequestsReplaced student asks) = true
is_of_quiet (ReservationAdded id offering) = true
is_of_quiet (ReservationRemoved place r) = true
is_of_quiet (ExpiryReplaced id offering day) = true
is_of_quiet (RestrictionAdded id offering) = true
is_of_quiet (RestrictionRemoved place r) = true
is_of_quiet (LimitReplaced cap offering limit) = true
is_of_quiet (SectionCancelled id offering) = true
is_of_quiet (DayReplaced old new) = true
is_of_quiet (Enrolled student offering) = false
is_of_quiet (Left place e offering) = false

-- ---- the world after a change is taken back

-- a list without its last element
abbrev pub but_last : {X : Type 0} → List X → List X
but_last xs = take (length xs - 1) xs

-- without the last offering
abbrev pub drop_offering : World → World
drop_offering w = record w { catalogue = record { rows = but_last w.catalogue.rows; cancelled = w.catalogue.cancelled } }

-- without the student added last
abbrev pub drop_student : World → World
drop_student w = record w { students = but_last w.students }

-- without the last mark of cancellation
abbrev pub uncancel : World → World
uncancel w = record w { catalogue = record { rows = w.catalogue.rows; cancelled = but_last w.catalogue.cancelled } }

-- a reservation at its place among those of its offering again
abbrev pub put_reservation_back : World → ℕ → Reservation → World
put_reservation_back w place r = record w { reservations = put_among_its_own (λ x. x.offering.0) place r w.reservations }

-- a restriction at its place among those of its offering again
abbrev pub put_restriction_back : World → ℕ → Restriction → World
put_restriction_back w place r = record w { restrictions = put_among_its_own (λ x. x.offering.0) place r w.restrictions }

-- without the last enrolment of the student
abbrev pub drop_enrolment : World → StudentId → World
drop_enrolment w student = record w { roster = drop_last_of student w.roster }

-- an enrolment at its place among those of its student again
abbrev pub put_enrolment_back : World → ℕ → Enrolment → World
put_enrolment_back w place e = record w { roster = put_among place e w.roster }

-- the world in which the change is taken back
abbrev pub taken_back : World → Back → World
taken_back w (OfferingAdded id) = drop_offering w
taken_back w (StudentAdded id) = drop_student w
taken_back w (StudentReplaced row) = put_student w row
taken_back w (RequestsReplaced student asks) = put_asks w student asks
taken_back w (ReservationAdded id offering) = drop_reservation w id
taken_back w (ReservationRemoved place r) = put_reservation_back w place r
taken_back w (ExpiryReplaced id offering day) = put_expiry w id day
taken_back w (RestrictionAdded id offering) = drop_restriction w id
taken_back w (RestrictionRemoved place r) = put_restriction_back w place r
taken_back w (LimitReplaced cap offering limit) = put_limit w cap limit
taken_back w (SectionCancelled id offering) = uncancel w
taken_back w (DayReplaced old new) = put_day w old
taken_back w (Enrolled student offering) = drop_enrolment w student
taken_back w (Left place e offering) = put_enrolment_back w place e

-- ---- what a change concerns

-- it concerns a student
abbrev pub of_student : StudentId → Mark
of_student student = record { student = Some student; offering = None; days = None }

-- it concerns an offering
abbrev pub of_offering : Option OfferingId → Mark
of_offering offering = record { student = None; offering = offering; days = None }

-- it concerns a student and an offering
abbrev pub of_both : StudentId → Option OfferingId → Mark
of_both student offering = record { student = Some student; offering = offering; days = None }

-- it concerns the days from the old one to the new one
abbrev pub of_days : ℕ → ℕ → Mark
of_days old new = record { student = None; offering = None; days = Some (old, new) }

-- the student, the offering or the days that a change concerns
abbrev pub concerned : World → Change → Mark
concerned w (Offering row) = of_offering (Some row.id)
concerned w (Student row) = of_student row.id
concerned w (Requests student asks) = of_student student
concerned w (Reserve r) = of_offering (Some r.offering)
concerned w (Unreserve id) = of_offering (reservation_offering w id)
concerned w (Expiry id day) = of_offering (reservation_offering w id)
concerned w (Restrict r) = of_offering (Some r.offering)
concerned w (Unrestrict id) = of_offering (option_map (λ r. r.offering) (restriction_of w id))
concerned w (new_cap cap limit) = of_offering (cap_offering w cap)
concerned w (Cancelled id) = of_offering (section_offering w id)
concerned w (Day day) = of_days w.day day
concerned w (Enrol e) = of_both e.student (offering_id w e.choice.course)
concerned w (Leave student course) = of_both student (offering_id w course)

-- the same, as it is kept
abbrev pub mark_of : Back → Mark
mark_of (OfferingAdded id) = of_offering (Some id)
mark_of (StudentAdded id) = of_student id
mark_of (StudentReplaced row) = of_student row.id
mark_of (RequestsReplaced student asks) = of_student student
mark_of (ReservationAdded id offering) = of_offering (Some offering)
mark_of (ReservationRemoved place r) = of_offering (Some r.offering)
mark_of (ExpiryReplaced id offering day) = of_offering offering
mark_of (RestrictionAdded id offering) = of_offering (Some offering)
mark_of (RestrictionRemoved place r) = of_offering (Some r.offering)
mark_of (LimitReplaced cap offering limit) = of_offering offering
mark_of (SectionCancelled id offering) = of_offering offering
mark_of (DayReplaced old new) = of_days old new
mark_of (Enrolled student offering) = of_both student offering
mark_of (Left place e offering) = of_both e.student offering
