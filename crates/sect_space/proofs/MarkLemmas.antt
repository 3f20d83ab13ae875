-- What is kept of a change tells what the change concerns.
use Rattle.std.specs.Prelude.{◌≡◌, ℕ, true, false, ◌==◌, Option, Some, None, find, refl}
use Rattle.std.specs.List.{position_or_len}
use Rattle.std.specs.Option.{option_map, option_map_or, is_some}
use Rattle.std.proofs.Common.{ap}
use Rattle.std.proofs.lemmas.Bool.{eqb-true}
use Rattle.sect_base.specs.declared.ids.StudentId.{StudentId}
use Rattle.sect_base.specs.declared.ids.CourseId.{CourseId}
use Rattle.sect_base.specs.declared.ids.ReservationId.{ReservationId}
use Rattle.sect_base.specs.declared.limit.Cap.{Cap}
use Rattle.sect_base.specs.declared.limit.Limit.{Limit}
use Rattle.sect_catalog.specs.Limits.{limit_in}
use Rattle.sect_people.specs.declared.row.StudentRow.{StudentRow}
use Rattle.sect_people.specs.Student.{Student, find_student}
use Rattle.sect_reserve.specs.declared.row.Reservation.{Reservation}
use Rattle.sect_reserve.specs.declared.row.Restriction.{Restriction}
use Rattle.sect_model.specs.declared.held.Enrolment.{Enrolment}
use Rattle.sect_model.specs.declared.change.Change.{Change}
use Rattle.sect_model.specs.declared.change.Change.TheVariants.{Offering, Student as student_change, Requests, Reserve, Unreserve, Expiry, Restrict, Unrestrict, Cap as new_cap, Cancelled, Day, Enrol, Leave}
use Rattle.sect_model.specs.World.{World, reservation_of, is_in, holds}
use Rattle.sect_model.specs.Allowed.{reservations_of, restrictions_of}
use Rattle.sect_model.specs.Refusals.{restriction_of}
use Rattle.sect_model.specs.Fits.{Fits, is_known_cap}
use Rattle.sect_model.proofs.Members
use Rattle.sect_model.proofs.Members.{any-at, both-left, not_both}
use Rattle.sect_space.specs.Back.{back_of, mark_of, concerned, of_student, of_offering, of_both, no_change, offering_id, reservation_offering, cap_offering}
use Rattle.sect_roster.specs.Rostered.{of_student as own_of}
use Rattle.sect_space.specs.declared.back.Back.TheVariants.{StudentAdded, StudentReplaced, RequestsReplaced, ReservationRemoved, ExpiryReplaced, RestrictionRemoved, LimitReplaced, Left}
use Rattle.sect_space.proofs.TakenBack.{known_limit}

student-marked : (w : World) (row : StudentRow) (o : Option Student) → find_student w.students row.id ≡ o
    → mark_of (option_map_or StudentReplaced (option_map (λ s. s.row) o) (StudentAdded row.id)) ≡ of_student row.id
student-marked w row None e = refl
student-marked w row (Some s) e = λ i. of_student (record { 0 = eqb-true s.row.id.0 row.id.0 (Members.find-member (λ x. x.row.id.0 == row.id.0) w.students s e).1 i })

requests-marked : (w : World) (student : StudentId) (o : Option Student) → is_some o ≡ true → mark_of (option_map_or (RequestsReplaced student) (option_map (λ s. s.asks) o) (no_change w)) ≡ of_student student
requests-marked w student None h = absurd (not_both false h refl)
requests-marked w student (Some s) h = refl

unreserve-marked : (w : World) (place : Reservation → ℕ) (o : Option Reservation) → is_some o ≡ true → mark_of (option_map_or (λ r. ReservationRemoved (place r) r) o (no_change w)) ≡ of_offering (option_map (λ r. r.offering) o)
unreserve-marked w place None h = absurd (not_both false h refl)
unreserve-marked w place (Some r) h = refl

expiry-marked : (w : World) (id : ReservationId) (o : Option Reservation) → is_some o ≡ true
    → mark_of (option_map_or (ExpiryReplaced id (reservation_offering w id)) (option_map (λ r. r.expiry) o) (no_change w)) ≡ of_offering (reservation_offering w id)
expiry-marked w id None h = absurd (not_both false h refl)
expiry-marked w id (Some r) h = refl

unrestrict-marked : (w : World) (place : Restriction → ℕ) (o : Option Restriction) → is_some o ≡ true → mark_of (option_map_or (λ r. RestrictionRemoved (place r) r) o (no_change w)) ≡ of_offering (option_map (λ r. r.offering) o)
unrestrict-marked w place None h = absurd (not_both false h refl)
unrestrict-marked w place (Some r) h = refl

cap-marked : (w : World) (cap : Cap) (o : Option Limit) → is_some o ≡ true → mark_of (option_map_or (LimitReplaced cap (cap_offering w cap)) o (no_change w)) ≡ of_offering (cap_offering w cap)
cap-marked w cap None h = absurd (not_both false h refl)
cap-marked w cap (Some old) h = refl

leave-marked : (w : World) (student : StudentId) (course : CourseId) (o : Option Enrolment) → find (is_in student course) w.roster ≡ o → holds w student course ≡ true
    → mark_of (option_map_or (λ e. Left (position_or_len (is_in student course) (own_of student.0 w.roster)) e (offering_id w course)) o (no_change w)) ≡ of_both student (offering_id w course)
leave-marked w student course None e h =
    let f = any-at (is_in student course) w.roster h in
    absurd (not_both (is_some (find (is_in student course) w.roster)) (Members.find-some (is_in student course) w.roster f.0 f.1 f.2) (ap is_some e))
leave-marked w student course (Some x) e h =
    λ i. of_both (record { 0 = eqb-true x.student.0 student.0 (both-left (x.student.0 == student.0) _ (Members.find-member (is_in student course) w.roster x e).1) i }) (offering_id w course)

pub marked : (w : World) (c : Change) → Fits w c → mark_of (back_of w c) ≡ concerned w c
marked w (Offering row) f = refl
marked w (student_change row) f = student-marked w row (find_student w.students row.id) refl
marked w (Requests student asks) f = requests-marked w student (find_student w.students student) (both-left (is_some (find_student w.students student)) _ f)
marked w (Reserve r) f = refl
marked w (Unreserve id) f = unreserve-marked w (λ r. position_or_len (λ x. x.id.0 == id.0) (reservations_of w r.offering)) (reservation_of w id) (both-left (is_some (reservation_of w id)) _ f)
marked w (Expiry id day) f = expiry-marked w id (reservation_of w id) f
marked w (Restrict r) f = refl
marked w (Unrestrict id) f = unrestrict-marked w (λ r. position_or_len (λ x. x.id.0 == id.0) (restrictions_of w r.offering)) (restriction_of w id) f
marked w (new_cap cap limit) f = cap-marked w cap (limit_in w.catalogue.rows cap) (known_limit w cap (both-left (is_known_cap w cap) _ f))
marked w (Cancelled id) f = refl
marked w (Day day) f = refl
marked w (Enrol e) f = refl
marked w (Leave student course) f = leave-marked w student course (find (is_in student course) w.roster) refl f
