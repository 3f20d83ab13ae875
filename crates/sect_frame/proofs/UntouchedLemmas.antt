-- A change that doesn't touch an entry leaves the worlds to read the same for it.
use Rattle.std.specs.Prelude.{◌≡◌, ℕ, Bool, true, false, not, ◌&&◌, ◌||◌, ◌==◌, cond, List, [], ◌∷◌, ◌++◌, map, filter, find, Option, Some, None, refl}
use Rattle.std.specs.List.{list_any}
use Rattle.std.specs.Option.{option_map, option_map_or, option_and_then, is_some}
use Rattle.std.proofs.Common.{sym, ◌∙◌, ap, inl, inr}
use Rattle.std.proofs.lemmas.Bool.{eqb-true, eq-eqb}
use Rattle.std.proofs.lemmas.List.Folds.{list_any-append}
use Rattle.sect_base.specs.declared.limit.Cap.TheVariants.{Section as cap_section}
use Rattle.sect_people.specs.Student.{find_student}
use Rattle.sect_people.specs.Order.{all_differ}
use Rattle.sect_people.specs.Changes.{with_row, with_asks}
use Rattle.sect_catalog.specs.Catalogue.{is_cancelled}
use Rattle.sect_reserve.specs.Audience.{active}
use Rattle.sect_model.specs.declared.change.Change.{Change}
use Rattle.sect_model.specs.declared.change.Change.TheVariants.{Offering as new_offering, Student as new_student, Requests, Reserve, Unreserve, Expiry, Restrict, Unrestrict, Cap as new_cap, Cancelled, Day, Enrol, Leave}
use Rattle.sect_model.specs.Data.{StudentId, CourseId, OfferingId, SectionId, ReservationId, OfferingRow, Student, StudentRow, Ask, Reservation, Restriction}
use Rattle.sect_model.specs.declared.held.Enrolment.{Enrolment}
use Rattle.sect_model.specs.declared.held.Waiting.{Waiting}
use Rattle.sect_model.specs.World.{World, offering_of, is_of, reservation_of}
use Rattle.sect_model.specs.Counts.{used_of}
use Rattle.sect_model.specs.Allowed.{reservations_of, restrictions_of}
use Rattle.sect_model.specs.Refusals.{restriction_of}
use Rattle.sect_model.specs.Change.{cancel, expire}
use Rattle.sect_model.specs.Fits.{Fits, changed}
use Rattle.sect_model.specs.Kept.{KeptWorld, entry_fits}
use Rattle.sect_model.specs.Freer.{has_section, has_cap, wants, flips}
use Rattle.sect_model.proofs.Members
use Rattle.sect_model.proofs.Members.{Member, both-left, both-right, not_both, neither-left, neither-right, known-test, known}
use Rattle.sect_model.proofs.PutLemmas.{filter-put, find-put}
use Rattle.sect_model.proofs.ReservationChanges.{expire-same}
use Rattle.sect_model.proofs.Easy.{sound}
use Rattle.sect_model.proofs.EnrolLeave.{find-own, some_same}
use Rattle.sect_model.proofs.ChangeLemmas.{changes-keep, new_id}
use Rattle.sect_model.proofs.FreerLemmas.{filter-part, find-other}
use Rattle.sect_model.proofs.FreerEnrol.{if-not}
use Rattle.sect_frame.specs.Frame.{ReadsSame, touches_entry}
use Rattle.sect_frame.proofs.PartLemmas.{same-reads}
use Rattle.sect_frame.proofs.CatalogueLemmas.{wanted-none, offering-reads, cap-reads}
use Rattle.sect_frame.proofs.ElsewhereLemmas.{enrol-reads, leave-reads}

-- ---- look-ups of what a change leaves alone

find-more : {X : Type 0} (test : X → Bool) (x : X) (xs : List X) → test x ≡ false → find test (xs ++ x ∷ []) ≡ find test xs
find-more test x [] h = λ i. cond (h i) (Some x) None
find-more test x (y ∷ ys) h = λ i. cond (test y) (Some y) (find-more test x ys h i)

-- what is not the student's row
row-other : (ss : List Student) (row : StudentRow) (student : StudentId) → row.id.0 == student.0 ≡ false
    → (b : Bool) → find_student (cond b (map (with_row row) ss) (ss ++ record { row = row; asks = [] } ∷ [])) student ≡ find_student ss student
row-other ss row student h false = find-more (λ s. s.row.id.0 == student.0) (record { row = row; asks = [] }) ss h
row-other ss row student h true = find-other (λ s. s.row.id.0 == student.0) (with_row row) ss (λ s. key s (s.row.id.0 == row.id.0) refl) (λ s t. stay s t (s.row.id.0 == row.id.0) refl)
  where
    key : (s : Student) (b : Bool) → s.row.id.0 == row.id.0 ≡ b → (cond b (record s { row = row }) s).row.id.0 == student.0 ≡ s.row.id.0 == student.0
    key s true t = ap (λ n. n == student.0) (sym (eqb-true s.row.id.0 row.id.0 t))
    key s false t = refl

    stay : (s : Student) → s.row.id.0 == student.0 ≡ true → (b : Bool) → s.row.id.0 == row.id.0 ≡ b → cond b (record s { row = row }) s ≡ s
    stay s t true u = absurd (not_both (row.id.0 == student.0) (eq-eqb row.id.0 student.0 (sym (eqb-true s.row.id.0 row.id.0 u) ∙ eqb-true s.row.id.0 student.0 t)) h)
    stay s t false u = refl

asks-other : (ss : List Student) (of : StudentId) (asks : List Ask) (student : StudentId) → of.0 == student.0 ≡ false → find_student (map (with_asks of asks) ss) student ≡ find_student ss student
asks-other ss of asks student h = find-other (λ s. s.row.id.0 == student.0) (with_asks of asks) ss (λ s. key s (s.row.id.0 == of.0)) (λ s t. stay s t (s.row.id.0 == of.0) refl)
  where
    key : (s : Student) (b : Bool) → (cond b (record s { asks = asks }) s).row.id.0 == student.0 ≡ s.row.id.0 == student.0
    key s true = refl
    key s false = refl

    stay : (s : Student) → s.row.id.0 == student.0 ≡ true → (b : Bool) → s.row.id.0 == of.0 ≡ b → cond b (record s { asks = asks }) s ≡ s
    stay s t true u = absurd (not_both (of.0 == student.0) (eq-eqb of.0 student.0 (sym (eqb-true s.row.id.0 of.0 u) ∙ eqb-true s.row.id.0 student.0 t)) h)
    stay s t false u = refl

-- an offering that isn't wanted is none of the wanted ones
not-wanted : (w : World) (e : Waiting) (offering : OfferingId) → wants w e.want offering ≡ false
    → (course : CourseId) (o : OfferingRow) → list_any (λ c. c.0 == course.0) e.want.courses ≡ true → offering_of w course ≡ Some o → offering.0 == o.id.0 ≡ false
not-wanted w e offering h course o wanted its = if-not (offering.0 == o.id.0) (λ t.
    not_both (o.id.0 == offering.0) (eq-eqb o.id.0 offering.0 (sym (eqb-true offering.0 o.id.0 t)))
    (wanted-none w e (λ o. o.id.0 == offering.0) h course o wanted its))

-- an element whose id finds one of an offering that isn't wanted is of no wanted offering
other-id : {X : Type 0} (id offering : X → ℕ) (xs : List X) (differ : all_differ (map id xs) ≡ true) (n m : ℕ) (x : X) → find (λ y. id y == n) xs ≡ Some x → offering x == m ≡ false
    → (y : X) → Member xs y → offering y == m ≡ true → id y == n ≡ false
other-id id offering xs differ n m x found away y member own = if-not (id y == n) (λ t.
    not_both (offering y == m) own
    (ap (λ z. offering z == m) (sym (some_same x y (sym found ∙ find-own id xs differ y member n (eqb-true (id y) n t)))) ∙ away))

-- ---- changes of students, restrictions and cancelled sections

module _ (w : World) (e : Waiting) (k : KeptWorld w) (fits : entry_fits w e ≡ true) where
  beside : (cancelled : List SectionId) (students : List Student) (restrictions : List Restriction)
      → KeptWorld (record w { catalogue = record { rows = w.catalogue.rows; cancelled = cancelled }; students = students; restrictions = restrictions })
      → find_student students e.student ≡ find_student w.students e.student
      → ((course : CourseId) (o : OfferingRow) → list_any (λ c. c.0 == course.0) e.want.courses ≡ true → offering_of w course ≡ Some o
      → (s : SectionId) → has_section o s ≡ true → list_any (λ x. x.0 == s.0) cancelled ≡ is_cancelled w.catalogue s)
      → ((course : CourseId) (o : OfferingRow) → list_any (λ c. c.0 == course.0) e.want.courses ≡ true → offering_of w course ≡ Some o
      → filter (λ r. r.offering.0 == o.id.0) restrictions ≡ restrictions_of w o.id)
      → ReadsSame w (record w { catalogue = record { rows = w.catalogue.rows; cancelled = cancelled }; students = students; restrictions = restrictions }) e
  beside cancelled students restrictions kv row gone others =
      same-reads w (record w { catalogue = record { rows = w.catalogue.rows; cancelled = cancelled }; students = students; restrictions = restrictions }) k kv refl e fits
      (λ y m. record { offering = λ id. refl; credits = refl; meetings = λ s n. refl; overlap = refl }) row
      (λ course o wanted its. record {
        row = its;
        cancelled = gone course o wanted its;
        reservations = refl;
        activity = λ r m. refl;
        restrictions = others course o wanted its;
      })

  -- ---- changes of reservations and of the day

  -- a reservation of the roster permits overlap as before
  overlap-same : (rs : List Reservation) (y : Enrolment) (named : Option ReservationId) → y.choice.reservation ≡ named
      → ((id : ReservationId) → y.choice.reservation ≡ Some id → option_map_or (λ r. r.overlap) (find (λ r. r.id.0 == id.0) rs) false ≡ option_map_or (λ r. r.overlap) (reservation_of w id) false)
      → option_map_or (λ r. r.overlap) (option_and_then (λ id. find (λ r. r.id.0 == id.0) rs) named) false ≡ option_map_or (λ r. r.overlap) (option_and_then (reservation_of w) named) false
  overlap-same rs y None n h = refl
  overlap-same rs y (Some id) n h = h id n

  reserved : (rs : List Reservation) (day : ℕ) → KeptWorld (record w { reservations = rs; day = day })
      → ((y : Enrolment) → Member w.roster y → (id : ReservationId) → y.choice.reservation ≡ Some id
      → option_map_or (λ r. r.overlap) (find (λ r. r.id.0 == id.0) rs) false ≡ option_map_or (λ r. r.overlap) (reservation_of w id) false)
      → ((course : CourseId) (o : OfferingRow) → list_any (λ c. c.0 == course.0) e.want.courses ≡ true → offering_of w course ≡ Some o
      → filter (λ r. r.offering.0 == o.id.0) rs ≡ reservations_of w o.id)
      → ((course : CourseId) (o : OfferingRow) → list_any (λ c. c.0 == course.0) e.want.courses ≡ true → offering_of w course ≡ Some o
      → (r : Reservation) → Member (reservations_of w o.id) r → active r day ≡ active r w.day)
      → ReadsSame w (record w { reservations = rs; day = day }) e
  reserved rs day kv overlap own activity =
      same-reads w (record w { reservations = rs; day = day }) k kv refl e fits
      (λ y m. record { offering = λ id. refl; credits = refl; meetings = λ s n. refl; overlap = overlap-same rs y y.choice.reservation refl (overlap y m) }) refl
      (λ course o wanted its. record {
        row = its;
        cancelled = λ s on. refl;
        reservations = own course o wanted its;
        activity = activity course o wanted its;
        restrictions = refl;
      })

-- the section that is cancelled isn't one of the offering's
cancelled-other : (w : World) (id : SectionId) (o : OfferingRow) → has_section o id ≡ false → (s : SectionId) → has_section o s ≡ true
    → (b : Bool) → list_any (λ x. x.0 == s.0) (cond b w.catalogue.cancelled (w.catalogue.cancelled ++ id ∷ [])) ≡ is_cancelled w.catalogue s
cancelled-other w id o away s on true = refl
cancelled-other w id o away s on false =
    list_any-append (λ x. x.0 == s.0) w.catalogue.cancelled (id ∷ [])
    ∙ (λ i. is_cancelled w.catalogue s || (if-not (id.0 == s.0) (λ t. not_both (has_section o s) on (ap (has_section o) (sym (one t)) ∙ away)) i || false))
    ∙ or-false (is_cancelled w.catalogue s)
  where
    one : id.0 == s.0 ≡ true → id ≡ s
    one t = λ i. record { 0 = eqb-true id.0 s.0 t i }

    or-false : (b : Bool) → b || (false || false) ≡ b
    or-false true = refl
    or-false false = refl

filter-other : {X : Type 0} (p : X → Bool) (f : X → X) (xs : List X) → ((x : X) → p (f x) ≡ p x) → ((x : X) → Member xs x → p x ≡ true → f x ≡ x) → filter p (map f xs) ≡ filter p xs
filter-other p f [] same stay = refl
filter-other {X = X} p f (x ∷ xs) same stay =
    (λ i. cond (same x i) (f x ∷ filter-other p f xs same (λ y m. stay y (inr m)) i) (filter-other p f xs same (λ y m. stay y (inr m)) i))
    ∙ by_test (p x) (stay x (inl refl))
  where
    by_test : (b : Bool) → (b ≡ true → f x ≡ x) → cond b (f x ∷ filter p xs) (filter p xs) ≡ cond b (x ∷ filter p xs) (filter p xs)
    by_test true h = ap (λ y. y ∷ filter p xs) (h refl)
    by_test false h = refl

not-flipped : (a b : Bool) → cond a (not b) b ≡ false → b ≡ a
not-flipped true true h = refl
not-flipped true false h = absurd (not_both true refl h)
not-flipped false true h = absurd (not_both true refl h)
not-flipped false false h = refl

-- a reservation of a wanted offering is active on the new day where it was
day-same : (w : World) (e : Waiting) (day : ℕ) → list_any (λ r. wants w e.want r.offering && flips w day r) w.reservations ≡ false
    → (course : CourseId) (o : OfferingRow) → list_any (λ c. c.0 == course.0) e.want.courses ≡ true → offering_of w course ≡ Some o
    → (r : Reservation) → Member (reservations_of w o.id) r → active r day ≡ active r w.day
day-same w e day h course o wanted its r m = by_wanted (wants w e.want r.offering) refl
  where
    there : Member w.reservations r × (r.offering.0 == o.id.0 ≡ true)
    there = Members.member-filter (λ r. r.offering.0 == o.id.0) w.reservations r m

    by_wanted : (b : Bool) → wants w e.want r.offering ≡ b → active r day ≡ active r w.day
    by_wanted false t = absurd (not_both (r.offering.0 == o.id.0) there.1 (not-wanted w e r.offering t course o wanted its))
    by_wanted true t =
        not-flipped (active r w.day) (active r day)
        (sym (ap (λ b. b && flips w day r) t) ∙ Members.none-at (λ r. wants w e.want r.offering && flips w day r) w.reservations h r there.0)

-- the reservation of an enrolment isn't a new one
not-new : (w : World) → KeptWorld w → (r : Reservation) → is_some (reservation_of w r.id) ≡ false → (y : Enrolment) → Member w.roster y → (id : ReservationId) → y.choice.reservation ≡ Some id
    → r.id.0 == id.0 ≡ false
not-new w k r new y m id n = if-not (r.id.0 == id.0) (λ t.
    let fits = ap (λ named. option_map_or (λ id. option_map_or (λ r. is_of w r.offering y.choice.course) (reservation_of w id) false) named true) (sym n) ∙ (sound w k.good y m).reservation in
    let old = known-test (λ r. is_of w r.offering y.choice.course) (reservation_of w id) fits in
    not_both (is_some (reservation_of w r.id)) (ap (λ n. is_some (find (λ r. r.id.0 == n) w.reservations)) (eqb-true r.id.0 id.0 t) ∙ ap is_some old.1) new)

-- and none that nobody uses
not-unused : (w : World) (id : ReservationId) → used_of w id ≡ 0 → (y : Enrolment) → Member w.roster y → (x : ReservationId) → y.choice.reservation ≡ Some x
    → (r : Reservation) → r.id.0 == x.0 ≡ true → r.id.0 == id.0 ≡ false
not-unused w id none y m x n r t = if-not (r.id.0 == id.0) (λ u.
    not_both (x.0 == id.0) (eq-eqb x.0 id.0 (sym (eqb-true r.id.0 x.0 t) ∙ eqb-true r.id.0 id.0 u))
    (ap (λ o. option_map_or (λ r. r.0 == id.0) o false) (sym n) ∙ Members.none-count (λ e. option_map_or (λ r. r.0 == id.0) e.choice.reservation false) w.roster none y m))

expired-overlap : (id : ReservationId) (day : Option ℕ) (o : Option Reservation) → option_map_or (λ r. r.overlap) (option_map (expire id day) o) false ≡ option_map_or (λ r. r.overlap) o false
expired-overlap id day None = refl
expired-overlap id day (Some r) = by_test (r.id.0 == id.0)
  where
    by_test : (b : Bool) → (cond b (record r { expiry = day }) r).overlap ≡ r.overlap
    by_test true = refl
    by_test false = refl

-- ---- all changes

pub untouched-reads : (w : World) (e : Waiting) (change : Change) → KeptWorld w → Fits w change → entry_fits w e ≡ true → touches_entry w e change ≡ false → ReadsSame w (changed w change) e
untouched-reads w e (new_offering row) k fits known h = offering-reads w e row k fits known
untouched-reads w e (new_student row) k fits known h =
    beside w e k known w.catalogue.cancelled (changed w (new_student row)).students w.restrictions (changes-keep w (new_student row) k fits)
    (row-other w.students row e.student h (is_some (find_student w.students row.id))) (λ course o wanted its s on. refl) (λ course o wanted its. refl)
untouched-reads w e (Requests student asks) k fits known h =
    beside w e k known w.catalogue.cancelled (changed w (Requests student asks)).students w.restrictions (changes-keep w (Requests student asks) k fits)
    (asks-other w.students student asks e.student h) (λ course o wanted its s on. refl) (λ course o wanted its. refl)
untouched-reads w e (Reserve r) k fits known h =
    reserved w e k known (changed w (Reserve r)).reservations w.day (changes-keep w (Reserve r) k fits)
    (λ y m id n. ap (λ o. option_map_or (λ r. r.overlap) o false)
    (find-put (λ r. r.offering.0) (λ r. r.id.0 == id.0) r w.reservations (not-new w k r (new_id w r fits) y m id n)))
    (λ course o wanted its. filter-put (λ x. x.offering.0) (λ x. x.offering.0 == o.id.0) r w.reservations (not-wanted w e r.offering h course o wanted its))
    (λ course o wanted its x m. refl)
untouched-reads w e (Unreserve id) k fits known h =
    let r = Members.known (reservation_of w id) (both-left _ _ fits) in
    let unused : used_of w id ≡ 0 = eqb-true (used_of w id) 0 (both-right (is_some (reservation_of w id)) _ fits) in
    let away : wants w e.want r.0.offering ≡ false = sym (ap (λ y. option_map_or (λ r. wants w e.want r.offering) y false) r.1) ∙ h in
    reserved w e k known (changed w (Unreserve id)).reservations w.day (changes-keep w (Unreserve id) k fits)
    (λ y m x n. ap (λ o. option_map_or (λ r. r.overlap) o false)
    (Members.find-filter (λ r. r.id.0 == x.0) (λ r. not (r.id.0 == id.0)) w.reservations (λ r t. Members.if_false (r.id.0 == id.0) (not-unused w id unused y m x n r t))))
    (λ course o wanted its. filter-part (λ x. x.offering.0 == o.id.0) (λ x. not (x.id.0 == id.0)) w.reservations (λ x m own.
    Members.if_false (x.id.0 == id.0)
    (other-id (λ x. x.id.0) (λ x. x.offering.0) w.reservations k.reservations_differ id.0 o.id.0 r.0 r.1 (not-wanted w e r.0.offering away course o wanted its) x m own)))
    (λ course o wanted its x m. refl)
untouched-reads w e (Expiry id day) k fits known h =
    let r = Members.known (reservation_of w id) fits in
    let away : wants w e.want r.0.offering ≡ false = sym (ap (λ y. option_map_or (λ r. wants w e.want r.offering) y false) r.1) ∙ h in
    reserved w e k known (changed w (Expiry id day)).reservations w.day (changes-keep w (Expiry id day) k fits)
    (λ y m x n.
    ap (λ o. option_map_or (λ r. r.overlap) o false) (Members.find-map (λ r. r.id.0 == x.0) (expire id day) w.reservations (λ r. expire-same w k (λ r. r.id.0 == x.0) id day (λ r. refl) r))
    ∙ expired-overlap id day (reservation_of w x))
    (λ course o wanted its. filter-other (λ x. x.offering.0 == o.id.0) (expire id day) w.reservations (λ x. expire-same w k (λ x. x.offering.0 == o.id.0) id day (λ x. refl) x) (λ x m own.
    ap (λ b. cond b (record x { expiry = day }) x)
    (other-id (λ x. x.id.0) (λ x. x.offering.0) w.reservations k.reservations_differ id.0 o.id.0 r.0 r.1 (not-wanted w e r.0.offering away course o wanted its) x m own)))
    (λ course o wanted its x m. refl)
untouched-reads w e (Restrict r) k fits known h =
    beside w e k known w.catalogue.cancelled w.students (changed w (Restrict r)).restrictions (changes-keep w (Restrict r) k fits) refl (λ course o wanted its s on. refl)
    (λ course o wanted its. filter-put (λ x. x.offering.0) (λ x. x.offering.0 == o.id.0) r w.restrictions (not-wanted w e r.offering h course o wanted its))
untouched-reads w e (Unrestrict id) k fits known h =
    let r = Members.known (restriction_of w id) fits in
    let away : wants w e.want r.0.offering ≡ false = sym (ap (λ y. option_map_or (λ r. wants w e.want r.offering) y false) r.1) ∙ h in
    beside w e k known w.catalogue.cancelled w.students (changed w (Unrestrict id)).restrictions (changes-keep w (Unrestrict id) k fits) refl (λ course o wanted its s on. refl)
    (λ course o wanted its. filter-part (λ x. x.offering.0 == o.id.0) (λ x. not (x.id.0 == id.0)) w.restrictions (λ x m own.
    Members.if_false (x.id.0 == id.0)
    (other-id (λ x. x.id.0) (λ x. x.offering.0) w.restrictions k.restrictions_differ id.0 o.id.0 r.0 r.1 (not-wanted w e r.0.offering away course o wanted its) x m own)))
untouched-reads w e (new_cap cap limit) k fits known h = cap-reads w e cap limit k fits known h
untouched-reads w e (Cancelled id) k fits known h =
    beside w e k known (cancel w id).catalogue.cancelled w.students w.restrictions (changes-keep w (Cancelled id) k fits) refl
    (λ course o wanted its s on. cancelled-other w id o (wanted-none w e (has_cap (cap_section id)) h course o wanted its) s on (is_cancelled w.catalogue id))
    (λ course o wanted its. refl)
untouched-reads w e (Day day) k fits known h =
    reserved w e k known w.reservations day (changes-keep w (Day day) k fits) (λ y m id n. refl) (λ course o wanted its. refl) (day-same w e day h)
untouched-reads w e (Enrol x) k fits known h = enrol-reads w e x k fits (neither-left _ _ h) (neither-right (x.student.0 == e.student.0) _ h)
untouched-reads w e (Leave student course) k fits known h = leave-reads w e student course k (neither-left _ _ h) (neither-right (student.0 == e.student.0) _ h)
