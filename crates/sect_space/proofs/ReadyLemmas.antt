-- After a change that fits, what it refers to is there, and there is room for what is put back.
use Rattle.std.specs.Prelude.{◌≡◌, ℕ, ◌+◌, ◌-◌, ◌<◌, ◌≤◌, Bool, true, false, not, ◌==◌, nat_le, cond, List, [], ◌∷◌, ◌++◌, length, map, flat_map, filter, find, Option, Some, None, refl}
use Rattle.std.specs.List.{list_any, position_or_len}
use Rattle.std.specs.Option.{option_map, option_map_or, is_some, is_none}
use Rattle.std.proofs.Common.{sym, ◌∙◌, ap, subst, arith, length-append}
use Rattle.std.proofs.lemmas.Bool.{eqb-true, eq-eqb}
use Rattle.std.proofs.lemmas.List.{map-append}
use Rattle.std.proofs.lemmas.List.Edits.{length-insert}
use Rattle.sect_base.specs.declared.ids.StudentId.{StudentId}
use Rattle.sect_base.specs.declared.ids.SectionId.{SectionId}
use Rattle.sect_base.specs.declared.ids.CourseId.{CourseId}
use Rattle.sect_base.specs.declared.ids.ReservationId.{ReservationId}
use Rattle.sect_base.specs.declared.ids.RestrictionId.{RestrictionId}
use Rattle.sect_base.specs.declared.limit.Cap.{Cap}
use Rattle.sect_base.specs.declared.limit.Cap.TheVariants.{Course as cap_course, Config as cap_config, Section as cap_section}
use Rattle.sect_base.specs.declared.limit.Limit.{Limit}
use Rattle.sect_catalog.specs.declared.row.OfferingRow.{OfferingRow}
use Rattle.sect_catalog.specs.Catalogue.{all_courses, all_configs, find_section, find_course, find_config, is_cancelled}
use Rattle.sect_catalog.specs.Limits.{with_limit, limit_in, capped_course, capped_config}
use Rattle.sect_people.specs.declared.row.StudentRow.{StudentRow}
use Rattle.sect_people.specs.declared.row.Ask.{Ask}
use Rattle.sect_people.specs.Student.{Student, find_student}
use Rattle.sect_people.specs.Changes.{with_row, with_asks}
use Rattle.sect_reserve.specs.declared.row.Reservation.{Reservation}
use Rattle.sect_reserve.specs.declared.row.Restriction.{Restriction}
use Rattle.sect_model.specs.declared.held.Enrolment.{Enrolment}
use Rattle.sect_model.specs.declared.change.Change.{Change}
use Rattle.sect_model.specs.declared.change.Change.TheVariants.{Offering, Student as student_change, Requests, Reserve, Unreserve, Expiry, Restrict, Unrestrict, Cap as new_cap, Cancelled, Day, Enrol, Leave}
use Rattle.sect_model.specs.World.{World, put_behind, reservation_of, is_in, holds, leave}
use Rattle.sect_model.specs.Allowed.{reservations_of, restrictions_of}
use Rattle.sect_model.specs.Refusals.{restriction_of}
use Rattle.sect_model.specs.Kept.{KeptWorld}
use Rattle.sect_model.specs.Change.{put_student, put_asks, put_limit, cancel, put_expiry, expire, drop_reservation, drop_restriction}
use Rattle.sect_model.specs.Fits.{Fits, changed, is_known_cap}
use Rattle.sect_model.proofs.Members
use Rattle.sect_model.proofs.Members.{any-at, both-left, both-right, not_both, not_true, or-left, or-right}
use Rattle.sect_model.proofs.CapChange.{section-after}
use Rattle.sect_model.proofs.ReservationChanges.{expire-same}
use Rattle.sect_model.proofs.ChangeLemmas.{new_id}
use Rattle.sect_roster.proofs.InsertLemmas.{find-put-own, find-dropped, once}
use Rattle.sect_roster.proofs.PlaceLemmas.{put-one-back, place-left}
use Rattle.sect_space.specs.Back.{back_of, no_change, offering_id, reservation_offering, cap_offering}
use Rattle.sect_space.specs.declared.back.Back.TheVariants.{StudentAdded, StudentReplaced, RequestsReplaced, ReservationRemoved, ExpiryReplaced, RestrictionRemoved, LimitReplaced, Left}
use Rattle.sect_space.specs.Roomed.{Roomed}
use Rattle.sect_roster.specs.Slots.{Room, capacity_of, number_of}
use Rattle.sect_roster.proofs.AmongLemmas.{left-place as left-among}
use Rattle.sect_roster.specs.Rostered.{of_student, number_held}
use Rattle.sect_model.proofs.ListLemmas.{found-passes}
use Rattle.sect_space.specs.Room.{HasLists, free_for}
use Rattle.sect_space.proofs.RoomLemmas.{left-place}
use Rattle.sect_space.specs.Made.{Ready}
use Rattle.sect_space.proofs.Bounds.{held-once}
use Rattle.sect_space.proofs.TakenBack.{new_restriction_id, known_limit}

-- ---- lists

some-last : {X : Type 0} (xs : List X) (x : X) → 0 < length (xs ++ x ∷ [])
some-last xs x = omega (arith, length-append xs (x ∷ []))

map-known : {X : Type 0} (f : X → X) (o : Option X) → is_some (option_map f o) ≡ is_some o
map-known f None = refl
map-known f (Some x) = refl

known-map : {X Y : Type 0} (f : X → Y) (o : Option X) → is_some (option_map f o) ≡ is_some o
known-map f None = refl
known-map f (Some x) = refl

-- a look-up after a change that keeps the key
known-after : {X : Type 0} (key : X → ℕ) (f : X → X) (n : ℕ) (xs : List X) → ((x : X) → key (f x) ≡ key x) → is_some (find (λ x. key x == n) (map f xs)) ≡ is_some (find (λ x. key x == n) xs)
known-after key f n xs same = ap is_some (Members.find-map (λ x. key x == n) f xs (λ x. ap (λ k. k == n) (same x))) ∙ map-known f (find (λ x. key x == n) xs)

any-put : {X : Type 0} (key : X → ℕ) (p : X → Bool) (x : X) (xs : List X) → p x ≡ true → list_any p (put_behind key x xs) ≡ true
any-put key p x [] t = or-left (p x) false t
any-put {X = X} key p x (y ∷ ys) t = by_order (any-put key p x ys t) (nat_le (key y) (key x))
  where
    by_order : list_any p (put_behind key x ys) ≡ true → (b : Bool) → list_any p (cond b (y ∷ put_behind key x ys) (x ∷ y ∷ ys)) ≡ true
    by_order ih true = or-right (p y) (list_any p (put_behind key x ys)) ih
    by_order ih false = or-left (p x) (list_any p (y ∷ ys)) t

-- the place of the one that passes, and room for it, once it is gone
removed : {X : Type 0} (p : X → Bool) (xs : List X) (x : X) (spare : ℕ) → length (filter p xs) ≡ 1 → find p xs ≡ Some x → length xs ≤ length (filter (λ y. not (p y)) xs) + spare → 0 < spare
removed p xs x spare h e room =
    one (length xs) (length (filter (λ y. not (p y)) xs)) spare
    (ap length (sym (put-one-back p xs x h (sym e))) ∙ length-insert (filter (λ y. not (p y)) xs) (position_or_len p xs) x (place-left p xs h)) room
  where
    one : (m n s : ℕ) → m ≡ n + 1 → m ≤ n + s → 0 < s
    one m n s e h = omega (arith, e, h)

-- the place of its number's that it had is free again
fits-again : (a b c : ℕ) → a ≡ 1 + b → a ≤ b + (c - b) → b < c
fits-again a b c e h = omega (arith, e, h)

-- ---- limits

parts-after : {X Y : Type 0} (parts : X → List Y) (f : X → X) (g : Y → Y) (xs : List X) → ((x : X) → parts (f x) ≡ map g (parts x)) → flat_map parts (map f xs) ≡ map g (flat_map parts xs)
parts-after parts f g [] same = refl
parts-after parts f g (x ∷ xs) same = (λ i. same x i ++ parts-after parts f g xs same i) ∙ sym (map-append g (parts x) (flat_map parts xs))

limit-after : (rows : List OfferingRow) (cap : Cap) (limit : Limit) → is_some (limit_in rows cap) ≡ true → is_some (limit_in (map (with_limit cap limit) rows) cap) ≡ true
limit-after rows (cap_course id) limit h =
    known-map (λ c. c.limit) (find_course (map (with_limit (cap_course id) limit) rows) id)
    ∙ ap (λ cs. is_some (find (λ c. c.id.0 == id.0) cs)) (parts-after (λ o. o.courses) (with_limit (cap_course id) limit) (capped_course (cap_course id) limit) rows (λ o. refl))
    ∙ known-after (λ c. c.id.0) (capped_course (cap_course id) limit) id.0 (all_courses rows) (λ c. refl)
    ∙ sym (known-map (λ c. c.limit) (find_course rows id)) ∙ h
limit-after rows (cap_config id) limit h =
    known-map (λ g. g.limit) (find_config (map (with_limit (cap_config id) limit) rows) id)
    ∙ ap (λ gs. is_some (find (λ g. g.id.0 == id.0) gs)) (parts-after (λ o. o.configs) (with_limit (cap_config id) limit) (capped_config (cap_config id) limit) rows (λ o. refl))
    ∙ known-after (λ g. g.id.0) (capped_config (cap_config id) limit) id.0 (all_configs rows) (λ g. refl)
    ∙ sym (known-map (λ g. g.limit) (find_config rows id)) ∙ h
limit-after rows (cap_section id) limit h =
    known-map (λ s. s.limit) (find_section (map (with_limit (cap_section id) limit) rows) id)
    ∙ ap is_some (section-after (cap_section id) limit rows id)
    ∙ known-map _ (find_section rows id)
    ∙ sym (known-map (λ s. s.limit) (find_section rows id)) ∙ h

-- ---- each change

module _ (w : World) (k : KeptWorld w) (rooms reservation_rooms restriction_rooms : List Room) (reservation_spare restriction_spare : ℕ) (counted : List ℕ) where
  abbrev in_room : World → Roomed
  in_room v = record {
    world = v;
    rooms = rooms;
    reservation_rooms = reservation_rooms;
    restriction_rooms = restriction_rooms;
    reservation_spare = reservation_spare;
    restriction_spare = restriction_spare;
    counted_ids = counted;
  }

  -- another row keeps the student's id
  row-key : (row : StudentRow) (s : Student) → (with_row row s).row.id.0 ≡ s.row.id.0
  row-key row s = by_test (s.row.id.0 == row.id.0) refl
    where
      by_test : (b : Bool) → s.row.id.0 == row.id.0 ≡ b → (cond b (record s { row = row }) s).row.id.0 ≡ s.row.id.0
      by_test true t = sym (eqb-true s.row.id.0 row.id.0 t)
      by_test false t = refl

  asks-key : (id : StudentId) (asks : List Ask) (s : Student) → (with_asks id asks s).row.id.0 ≡ s.row.id.0
  asks-key id asks s = by_test (s.row.id.0 == id.0)
    where
      by_test : (b : Bool) → (cond b (record s { asks = asks }) s).row.id.0 ≡ s.row.id.0
      by_test true = refl
      by_test false = refl

  student-ready : (row : StudentRow) (o : Option Student) → find_student w.students row.id ≡ o
      → Ready (in_room (put_student w row)) (option_map_or StudentReplaced (option_map (λ s. s.row) o) (StudentAdded row.id))
  student-ready row None e =
      subst (λ ss. 0 < length ss) (sym (ap (λ o. cond (is_some o) (map (with_row row) w.students) (w.students ++ record { row = row; asks = [] } ∷ [])) e)) (some-last w.students (record { row = row; asks = [] }))
  student-ready row (Some s) e =
      let m = Members.find-member (λ x. x.row.id.0 == row.id.0) w.students s e in
      ap (λ o. is_some (find_student (cond (is_some o) (map (with_row row) w.students) (w.students ++ record { row = row; asks = [] } ∷ [])) s.row.id)) e
      ∙ known-after (λ x. x.row.id.0) (with_row row) s.row.id.0 w.students (row-key row)
      ∙ Members.find-some (λ x. x.row.id.0 == s.row.id.0) w.students s m.0 (eq-eqb s.row.id.0 s.row.id.0 refl)

  requests-ready : (student : StudentId) (asks : List Ask) (o : Option Student) → find_student w.students student ≡ o → is_some o ≡ true
      → Ready (in_room (put_asks w student asks)) (option_map_or (RequestsReplaced student) (option_map (λ s. s.asks) o) (no_change w))
  requests-ready student asks None e h = absurd (not_both false h refl)
  requests-ready student asks (Some s) e h = known-after (λ x. x.row.id.0) (with_asks student asks) student.0 w.students (asks-key student asks) ∙ ap is_some e

  unreserve-ready : (id : ReservationId) (o : Option Reservation) → reservation_of w id ≡ o → is_some o ≡ true → HasLists (in_room (drop_reservation w id)) w
      → Ready (in_room (drop_reservation w id)) (option_map_or (λ r. ReservationRemoved (position_or_len (λ x. x.id.0 == id.0) (reservations_of w r.offering)) r) o (no_change w))
  unreserve-ready id None e h room = absurd (not_both false h refl)
  unreserve-ready id (Some r) e h room =
      let p = λ (x : Reservation). x.id.0 == id.0 in
      let n = once (λ x. x.id.0) id.0 w.reservations k.reservations_differ (ap is_some e) in
      let left = left-among (λ x. x.offering.0) p r.offering.0 w.reservations r n (sym e) refl in
      let own = eqb-true r.id.0 id.0 (Members.find-member p w.reservations r e).1 in (
        fits-again (number_of (λ x. x.offering.0) r.offering.0 w.reservations) _ (capacity_of reservation_rooms r.offering.0) left.0 (room.reservations r.offering.0),
        removed p w.reservations r reservation_spare n e room.reservation_ids,
        left.1,
        ap (λ m. is_none (find (λ x. x.id.0 == m) (filter (λ x. not (p x)) w.reservations))) own ∙ ap is_none (find-dropped p w.reservations),
      )

  unrestrict-ready : (id : RestrictionId) (o : Option Restriction) → restriction_of w id ≡ o → is_some o ≡ true → HasLists (in_room (drop_restriction w id)) w
      → Ready (in_room (drop_restriction w id)) (option_map_or (λ r. RestrictionRemoved (position_or_len (λ x. x.id.0 == id.0) (restrictions_of w r.offering)) r) o (no_change w))
  unrestrict-ready id None e h room = absurd (not_both false h refl)
  unrestrict-ready id (Some r) e h room =
      let p = λ (x : Restriction). x.id.0 == id.0 in
      let n = once (λ x. x.id.0) id.0 w.restrictions k.restrictions_differ (ap is_some e) in
      let left = left-among (λ x. x.offering.0) p r.offering.0 w.restrictions r n (sym e) refl in
      let own = eqb-true r.id.0 id.0 (Members.find-member p w.restrictions r e).1 in (
        fits-again (number_of (λ x. x.offering.0) r.offering.0 w.restrictions) _ (capacity_of restriction_rooms r.offering.0) left.0 (room.restrictions r.offering.0),
        removed p w.restrictions r restriction_spare n e room.restriction_ids,
        left.1,
        ap (λ m. is_none (find (λ x. x.id.0 == m) (filter (λ x. not (p x)) w.restrictions))) own ∙ ap is_none (find-dropped p w.restrictions),
      )

  expiry-ready : (id : ReservationId) (day : Option ℕ) (o : Option Reservation) → reservation_of w id ≡ o → is_some o ≡ true
      → Ready (in_room (put_expiry w id day)) (option_map_or (ExpiryReplaced id (reservation_offering w id)) (option_map (λ r. r.expiry) o) (no_change w))
  expiry-ready id day None e h = absurd (not_both false h refl)
  expiry-ready id day (Some r) e h = known-after (λ x. x.id.0) (expire id day) id.0 w.reservations (λ x. expire-same w k (λ x. x.id.0) id day (λ x. refl) x) ∙ ap is_some e

  cap-ready : (cap : Cap) (limit : Limit) (o : Option Limit) → limit_in w.catalogue.rows cap ≡ o → is_some o ≡ true
      → Ready (in_room (put_limit w cap limit)) (option_map_or (LimitReplaced cap (cap_offering w cap)) o (no_change w))
  cap-ready cap limit None e h = absurd (not_both false h refl)
  cap-ready cap limit (Some old) e h = limit-after w.catalogue.rows cap limit (ap is_some e)

  cancel-ready : (id : SectionId) → is_cancelled w.catalogue id ≡ false → 0 < length (cancel w id).catalogue.cancelled
  cancel-ready id h = subst (λ ss. 0 < length ss) (λ i. cond (sym h i) w.catalogue.cancelled (w.catalogue.cancelled ++ id ∷ [])) (some-last w.catalogue.cancelled id)

  leave-ready : (student : StudentId) (course : CourseId) (o : Option Enrolment) → find (is_in student course) w.roster ≡ o → holds w student course ≡ true → HasLists (in_room (leave w student course)) w
      → Ready (in_room (leave w student course)) (option_map_or (λ e. Left (position_or_len (is_in student course) (of_student student.0 w.roster)) e (offering_id w course)) o (no_change w))
  leave-ready student course None e h room =
      let f = any-at (is_in student course) w.roster h in
      absurd (not_both (is_some (find (is_in student course) w.roster)) (Members.find-some (is_in student course) w.roster f.0 f.1 f.2) (ap is_some e))
  leave-ready student course (Some x) e h room =
      let mine = eqb-true x.student.0 student.0 (both-left (x.student.0 == student.0) _ (found-passes (is_in student course) w.roster x e)) in
      subst (λ n. (0 < free_for (in_room (leave w student course)) n) × (position_or_len (is_in student course) (of_student student.0 w.roster) ≤ number_held n (leave w student course).roster)) (sym mine)
      (left-place student course w.roster x (free_for (in_room (leave w student course)) student.0) (held-once w k student course h) e (room.roster student.0))

  each-ready : (c : Change) → Fits w c → HasLists (in_room (changed w c)) w → Ready (in_room (changed w c)) (back_of w c)
  each-ready (Offering row) f room = some-last w.catalogue.rows row
  each-ready (student_change row) f room = student-ready row (find_student w.students row.id) refl
  each-ready (Requests student asks) f room = requests-ready student asks (find_student w.students student) refl (both-left (is_some (find_student w.students student)) _ f)
  each-ready (Reserve r) f room = ap is_some (find-put-own (λ x. x.offering.0) (λ x. x.id.0 == r.id.0) r w.reservations (eq-eqb r.id.0 r.id.0 refl) (new_id w r f))
  each-ready (Unreserve id) f room = unreserve-ready id (reservation_of w id) refl (both-left (is_some (reservation_of w id)) _ f) room
  each-ready (Expiry id day) f room = expiry-ready id day (reservation_of w id) refl f
  each-ready (Restrict r) f room = ap is_some (find-put-own (λ x. x.offering.0) (λ x. x.id.0 == r.id.0) r w.restrictions (eq-eqb r.id.0 r.id.0 refl) (new_restriction_id w r f))
  each-ready (Unrestrict id) f room = unrestrict-ready id (restriction_of w id) refl f room
  each-ready (new_cap cap limit) f room = cap-ready cap limit (limit_in w.catalogue.rows cap) refl (known_limit w cap (both-left (is_known_cap w cap) _ f))
  each-ready (Cancelled id) f room = cancel-ready id (not_true (is_cancelled w.catalogue id) (both-right (is_some (find_section w.catalogue.rows id)) _ (both-left _ _ f)))
  each-ready (Day day) f room = tt
  each-ready (Enrol e) f room = any-put (λ x. x.student.0) (λ x. x.student.0 == e.student.0) (record { student = e.student; choice = e.choice }) w.roster (eq-eqb e.student.0 e.student.0 refl)
  each-ready (Leave student course) f room = leave-ready student course (find (is_in student course) w.roster) refl f room

pub ready : (r : Roomed) (w : World) (c : Change) → KeptWorld w → Fits w c → HasLists r w → changed w c ≡ r.world → Ready r (back_of w c)
ready r w c k f room e =
    subst (λ v. HasLists (in_room w k r.rooms r.reservation_rooms r.restriction_rooms r.reservation_spare r.restriction_spare r.counted_ids v) w → Ready (in_room w k r.rooms r.reservation_rooms r.restriction_rooms r.reservation_spare r.restriction_spare r.counted_ids v) (back_of w c)) e
    (each-ready w k r.rooms r.reservation_rooms r.restriction_rooms r.reservation_spare r.restriction_spare r.counted_ids c f) room
