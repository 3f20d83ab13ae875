-- A change that fits, taken back, leaves the world as it was.
use Rattle.std.specs.Prelude.{◌≡◌, ℕ, nat_lt, true, false, ◌==◌, cond, List, [], ◌∷◌, ◌++◌, length, map, find, Option, Some, None, refl}
use Rattle.std.specs.List.{position_or_len}
use Rattle.std.specs.Option.{option_map, option_map_or, is_some}
use Rattle.std.proofs.Common.{sym, ◌∙◌, ap}
use Rattle.sect_base.specs.declared.ids.ReservationId.{ReservationId}
use Rattle.sect_base.specs.declared.ids.RestrictionId.{RestrictionId}
use Rattle.sect_base.specs.declared.ids.SectionId.{SectionId}
use Rattle.sect_base.specs.declared.ids.StudentId.{StudentId}
use Rattle.sect_base.specs.declared.ids.CourseId.{CourseId}
use Rattle.sect_base.specs.declared.limit.Cap.{Cap}
use Rattle.sect_base.specs.declared.limit.Cap.TheVariants.{Course as cap_course, Config as cap_config, Section as cap_section}
use Rattle.sect_base.specs.declared.limit.Limit.{Limit}
use Rattle.sect_catalog.specs.Catalogue.{find_offering, find_course, find_config, find_section, is_cancelled}
use Rattle.sect_catalog.specs.Limits.{limit_in}
use Rattle.sect_people.specs.declared.row.StudentRow.{StudentRow}
use Rattle.sect_people.specs.declared.row.Ask.{Ask}
use Rattle.sect_people.specs.Student.{Student, find_student}
use Rattle.sect_reserve.specs.declared.row.Reservation.{Reservation}
use Rattle.sect_reserve.specs.declared.row.Restriction.{Restriction}
use Rattle.sect_model.specs.declared.held.Enrolment.{Enrolment}
use Rattle.sect_model.specs.declared.change.Change.{Change}
use Rattle.sect_model.specs.declared.change.Change.TheVariants.{Offering, Student as student_change, Requests, Reserve, Unreserve, Expiry, Restrict, Unrestrict, Cap as new_cap, Cancelled, Day, Enrol, Leave}
use Rattle.sect_model.specs.World.{World, reservation_of, is_in, holds, leave}
use Rattle.sect_model.specs.Refusals.{restriction_of}
use Rattle.sect_model.specs.Kept.{KeptWorld}
use Rattle.sect_model.specs.Change.{put_student, put_asks, put_limit, cancel, put_expiry, expire, drop_reservation, drop_restriction}
use Rattle.sect_model.specs.Fits.{Fits, changed, is_known_cap, lists_fit, new_restriction_fits}
use Rattle.sect_model.specs.Allowed.{reservations_of, restrictions_of}
use Rattle.sect_model.proofs.Members
use Rattle.sect_model.proofs.Members.{any-at, both-left, both-right, not_both, not_true}
use Rattle.sect_model.proofs.ChangeLemmas.{new_id, not_in_use}
use Rattle.sect_space.specs.declared.back.Back.TheVariants.{StudentAdded, StudentReplaced, RequestsReplaced, ReservationRemoved, ExpiryReplaced, RestrictionRemoved, LimitReplaced, Left}
use Rattle.sect_space.specs.Back.{back_of, taken_back, no_change, offering_id, reservation_offering, cap_offering, but_last}
use Rattle.sect_roster.proofs.AmongLemmas.{comes-back as own-back}
use Rattle.sect_roster.proofs.InsertLemmas.{once}
use Rattle.sect_roster.proofs.LastLemmas.{drop-put}
use Rattle.sect_roster.proofs.UndoneLemmas.{taken-back as gone-again}
use Rattle.sect_roster.specs.Rostered.{of_student}
use Rattle.sect_roster.proofs.OwnLemmas.{own-student}
use Rattle.sect_space.proofs.Bounds.{held-once}
use Rattle.sect_space.proofs.Lists.{but-last, map-back}
use Rattle.sect_space.proofs.StudentBack.{new-back, row-back, asks-back}
use Rattle.sect_space.proofs.LimitBack.{limit-back}

-- ---- the parts of a change of something known

student-back : (w : World) → KeptWorld w → (row : StudentRow) (o : Option Student) → find_student w.students row.id ≡ o
    → taken_back (put_student w row) (option_map_or StudentReplaced (option_map (λ s. s.row) o) (StudentAdded row.id)) ≡ w
student-back w k row None e = λ i. record w { students = new-back w.students row e i }
student-back w k row (Some s) e = λ i. record w { students = row-back w.students row s k.students_differ e i }

requests-back : (w : World) → KeptWorld w → (student : StudentId) (asks : List Ask) (o : Option Student) → find_student w.students student ≡ o → is_some o ≡ true
    → taken_back (put_asks w student asks) (option_map_or (RequestsReplaced student) (option_map (λ s. s.asks) o) (no_change w)) ≡ w
requests-back w k student asks None e h = absurd (Members.not_both false h refl)
requests-back w k student asks (Some s) e h = λ i. record w { students = asks-back w.students student asks s k.students_differ e i }

expiry-back : (w : World) → KeptWorld w → (id : ReservationId) (day : Option ℕ) (o : Option Reservation) → reservation_of w id ≡ o → is_some o ≡ true
    → taken_back (put_expiry w id day) (option_map_or (ExpiryReplaced id (reservation_offering w id)) (option_map (λ r. r.expiry) o) (no_change w)) ≡ w
expiry-back w k id day None e h = absurd (Members.not_both false h refl)
expiry-back w k id day (Some r) e h = λ i. record w { reservations = same i }
  where
    own : r.id.0 == id.0 ≡ true
    own = (Members.find-member (λ x. x.id.0 == id.0) w.reservations r e).1

    same : map (expire id r.expiry) (map (expire id day) w.reservations) ≡ w.reservations
    same =
        map-back (λ x. x.id.0) (expire id day) (expire id r.expiry) id.0 w.reservations r k.reservations_differ e
        ((λ i. expire id r.expiry (cond (own i) (record r { expiry = day }) r)) ∙ (λ i. cond (own i) (record r { expiry = r.expiry }) (record r { expiry = day })))
        (λ y t. (λ i. expire id r.expiry (cond (t i) (record y { expiry = day }) y)) ∙ (λ i. cond (t i) (record y { expiry = r.expiry }) y))

cap-back : (w : World) → KeptWorld w → (cap : Cap) (limit : Limit) (o : Option Limit) → limit_in w.catalogue.rows cap ≡ o → is_some o ≡ true
    → taken_back (put_limit w cap limit) (option_map_or (LimitReplaced cap (cap_offering w cap)) o (no_change w)) ≡ w
cap-back w k cap limit None e h = absurd (Members.not_both false h refl)
cap-back w k cap limit (Some old) e h = λ i. record w { catalogue = record { rows = limit-back w.catalogue.rows cap limit old k.rows_pass e i; cancelled = w.catalogue.cancelled } }

cancel-back : (w : World) (id : SectionId) → is_cancelled w.catalogue id ≡ false → but_last (cancel w id).catalogue.cancelled ≡ w.catalogue.cancelled
cancel-back w id h = (λ i. but_last (cond (h i) w.catalogue.cancelled (w.catalogue.cancelled ++ id ∷ []))) ∙ but-last w.catalogue.cancelled id

unreserve-back : (w : World) → KeptWorld w → (id : ReservationId) (o : Option Reservation) → reservation_of w id ≡ o → is_some o ≡ true
    → taken_back (drop_reservation w id) (option_map_or (λ r. ReservationRemoved (position_or_len (λ x. x.id.0 == id.0) (reservations_of w r.offering)) r) o (no_change w)) ≡ w
unreserve-back w k id None e h = absurd (Members.not_both false h refl)
unreserve-back w k id (Some r) e h =
    λ i. record w { reservations = own-back (λ x. x.offering.0) (λ x. x.id.0 == id.0) r.offering.0 w.reservations r k.reservations_in_order (once (λ x. x.id.0) id.0 w.reservations k.reservations_differ (ap is_some e)) (sym e) refl i }

unrestrict-back : (w : World) → KeptWorld w → (id : RestrictionId) (o : Option Restriction) → restriction_of w id ≡ o → is_some o ≡ true
    → taken_back (drop_restriction w id) (option_map_or (λ r. RestrictionRemoved (position_or_len (λ x. x.id.0 == id.0) (restrictions_of w r.offering)) r) o (no_change w)) ≡ w
unrestrict-back w k id None e h = absurd (Members.not_both false h refl)
unrestrict-back w k id (Some r) e h =
    λ i. record w { restrictions = own-back (λ x. x.offering.0) (λ x. x.id.0 == id.0) r.offering.0 w.restrictions r k.restrictions_in_order (once (λ x. x.id.0) id.0 w.restrictions k.restrictions_differ (ap is_some e)) (sym e) refl i }

leave-back : (w : World) → KeptWorld w → (student : StudentId) (course : CourseId) (o : Option Enrolment) → find (is_in student course) w.roster ≡ o → holds w student course ≡ true
    → taken_back (leave w student course) (option_map_or (λ e. Left (position_or_len (is_in student course) (of_student student.0 w.roster)) e (offering_id w course)) o (no_change w)) ≡ w
leave-back w k student course None e h =
    let f = any-at (is_in student course) w.roster h in
    absurd (not_both (is_some (find (is_in student course) w.roster)) (Members.find-some (is_in student course) w.roster f.0 f.1 f.2) (ap is_some e))
leave-back w k student course (Some x) e h = λ i. record w { roster = own-back (λ y. y.student.0) (is_in student course) student.0 w.roster x k.in_order (held-once w k student course h) (sym e) (own-student student course w.roster x e) i }

map-known : {X Y : Type 0} (f : X → Y) (o : Option X) → is_some (option_map f o) ≡ is_some o
map-known f None = refl
map-known f (Some x) = refl

-- a known course, configuration or section has a limit
pub known_limit : (w : World) (cap : Cap) → is_known_cap w cap ≡ true → is_some (limit_in w.catalogue.rows cap) ≡ true
known_limit w (cap_course id) h = map-known (λ c. c.limit) (find_course w.catalogue.rows id) ∙ h
known_limit w (cap_config id) h = map-known (λ g. g.limit) (find_config w.catalogue.rows id) ∙ h
known_limit w (cap_section id) h = map-known (λ s. s.limit) (find_section w.catalogue.rows id) ∙ h

-- a restriction that fits has a new id
pub new_restriction_id : (w : World) (r : Restriction) → new_restriction_fits w r ≡ true → is_some (restriction_of w r.id) ≡ false
new_restriction_id w r h =
    let f = Members.known-test (lists_fit r.id.0 (is_some (restriction_of w r.id)) false r.audience r.includes) (find_offering w.catalogue.rows r.offering) (both-left _ (nat_lt (length (restrictions_of w r.offering)) 50) h) in
    not_in_use r.id.0 (is_some (restriction_of w r.id)) false r.audience r.includes f.0 f.2

-- ---- each change

pub taken-back : (w : World) (c : Change) → KeptWorld w → Fits w c → taken_back (changed w c) (back_of w c) ≡ w
taken-back w (Offering row) k f = λ i. record w { catalogue = record { rows = but-last w.catalogue.rows row i; cancelled = w.catalogue.cancelled } }
taken-back w (student_change row) k f = student-back w k row (find_student w.students row.id) refl
taken-back w (Requests student asks) k f = requests-back w k student asks (find_student w.students student) refl (both-left (is_some (find_student w.students student)) _ f)
taken-back w (Reserve r) k f = λ i. record w { reservations = gone-again (λ x. x.offering.0) (λ x. x.id.0) r w.reservations (new_id w r f) i }
taken-back w (Unreserve id) k f = unreserve-back w k id (reservation_of w id) refl (both-left (is_some (reservation_of w id)) _ f)
taken-back w (Expiry id day) k f = expiry-back w k id day (reservation_of w id) refl f
taken-back w (Restrict r) k f = λ i. record w { restrictions = gone-again (λ x. x.offering.0) (λ x. x.id.0) r w.restrictions (new_restriction_id w r f) i }
taken-back w (Unrestrict id) k f = unrestrict-back w k id (restriction_of w id) refl f
taken-back w (new_cap cap limit) k f = cap-back w k cap limit (limit_in w.catalogue.rows cap) refl (known_limit w cap (both-left (is_known_cap w cap) _ f))
taken-back w (Cancelled id) k f = λ i. record w { catalogue = record { rows = w.catalogue.rows; cancelled = cancel-back w id (not_true (is_cancelled w.catalogue id) (both-right (is_some (find_section w.catalogue.rows id)) _ (both-left _ _ f))) i } }
taken-back w (Day day) k f = refl
taken-back w (Enrol e) k f = λ i. record w { roster = drop-put e w.roster k.in_order i }
taken-back w (Leave student course) k f = leave-back w k student course (find (is_in student course) w.roster) refl f
