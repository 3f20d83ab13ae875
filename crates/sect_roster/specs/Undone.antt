-- What undoing a change of a list gives back.
use Rattle.std.specs.Prelude.{◌≡◌, ℕ, not, ◌==◌, List, length, map, filter, find, insert, position, Some, IsTrue, IsNone}
use Rattle.sect_base.specs.declared.ids.StudentId.{StudentId}
use Rattle.sect_base.specs.declared.ids.CourseId.{CourseId}
use Rattle.sect_base.specs.declared.ids.ReservationId.{ReservationId}
use Rattle.sect_base.specs.declared.ids.RestrictionId.{RestrictionId}
use Rattle.sect_reserve.specs.declared.row.Reservation.{Reservation}
use Rattle.sect_reserve.specs.declared.row.Restriction.{Restriction}
use Rattle.sect_people.specs.Order.{all_differ}
use Rattle.sect_model.specs.declared.held.Enrolment.{Enrolment}
use Rattle.sect_model.specs.World.{insert_enrolment, is_in, put_behind}
use Rattle.sect_model.specs.Kept.{is_ordered, is_ordered_by}
use Rattle.sect_roster.specs.Last.{last_of, drop_last_of}
use Rattle.sect_roster.specs.Slots.{rows_of, put_among}

-- the student's one enrolment in a course, taken out and put back at its place
abbrev pub EnrolmentComesBack : Type 0
EnrolmentComesBack =
    (es : List Enrolment) (student : StudentId) (course : CourseId) (place : ℕ) (e : Enrolment)
    → length (filter (is_in student course) es) ≡ 1 → Some e ≡ find (is_in student course) es → Some place ≡ position (is_in student course) es
    → insert (filter (λ f. not (is_in student course f)) es) place e ≡ es

-- the reservation of an id, taken out and put back at its place among those of its offering
abbrev pub ReservationComesBack : Type 0
ReservationComesBack =
    (rs : List Reservation) (id : ReservationId) (place : ℕ) (r : Reservation) → IsTrue (is_ordered_by (λ x. x.offering.0) rs) → IsTrue (all_differ (map (λ r. r.id.0) rs))
    → Some r ≡ find (λ r. r.id.0 == id.0) rs → Some place ≡ position (λ r. r.id.0 == id.0) (rows_of (λ x. x.offering.0) r.offering.0 rs)
    → put_among (λ x. x.offering.0) place r (filter (λ r. not (r.id.0 == id.0)) rs) ≡ rs

-- the restriction of an id, taken out and put back at its place among those of its offering
abbrev pub RestrictionComesBack : Type 0
RestrictionComesBack =
    (rs : List Restriction) (id : RestrictionId) (place : ℕ) (r : Restriction) → IsTrue (is_ordered_by (λ x. x.offering.0) rs) → IsTrue (all_differ (map (λ r. r.id.0) rs))
    → Some r ≡ find (λ r. r.id.0 == id.0) rs → Some place ≡ position (λ r. r.id.0 == id.0) (rows_of (λ x. x.offering.0) r.offering.0 rs)
    → put_among (λ x. x.offering.0) place r (filter (λ r. not (r.id.0 == id.0)) rs) ≡ rs

-- a new enrolment is the last of its student, and without that one the enrolments are as before
abbrev pub EnrolmentGoes : Type 0
EnrolmentGoes =
    (es : List Enrolment) (e : Enrolment) → IsTrue (is_ordered es)
    → (last_of e.student (insert_enrolment e es) ≡ Some e) × (drop_last_of e.student (insert_enrolment e es) ≡ es)

-- without a new reservation the reservations are as before
abbrev pub ReservationGoes : Type 0
ReservationGoes =
    (rs : List Reservation) (r : Reservation) → IsNone (find (λ x. x.id.0 == r.id.0) rs)
    → filter (λ x. not (x.id.0 == r.id.0)) (put_behind (λ x. x.offering.0) r rs) ≡ rs

-- without a new restriction the restrictions are as before
abbrev pub RestrictionGoes : Type 0
RestrictionGoes =
    (rs : List Restriction) (r : Restriction) → IsNone (find (λ x. x.id.0 == r.id.0) rs)
    → filter (λ x. not (x.id.0 == r.id.0)) (put_behind (λ x. x.offering.0) r rs) ≡ rs
