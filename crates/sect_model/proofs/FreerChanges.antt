-- A change that may not give an entry a move gives it none.
use Rattle.std.specs.Prelude.{◌≡◌, ℕ, ◌+◌, pos, ◌-ℤ◌, int_lt, Bool, true, false, not, ◌&&◌, ◌==◌, cond, List, [], ◌∷◌, ◌++◌, map, filter, find, sum_by, Option, Some, None, refl}
use Rattle.std.specs.List.{list_any, list_all}
use Rattle.std.specs.Option.{option_map, option_map_or, option_and_then, is_some}
use Rattle.std.proofs.Common.{sym, ◌∙◌, ap, subst, inl, inr}
use Rattle.std.proofs.lemmas.Bool.{eqb-true, eq-eqb}
use Rattle.sect_base.specs.declared.limit.Level.TheVariants.{Course, Offering, Config, Section}
use Rattle.sect_people.specs.Student.{find_student}
use Rattle.sect_people.specs.Changes.{with_row, with_asks}
use Rattle.sect_catalog.specs.Catalogue.{places, is_cancelled}
use Rattle.sect_reserve.specs.Audience.{active}
use Rattle.sect_model.specs.declared.change.Change.TheVariants.{Offering as new_offering, Student as new_student, Requests, Reserve, Unreserve, Expiry, Restrict, Unrestrict, Cap, Cancelled, Day, Enrol, Leave}
use Rattle.sect_model.specs.Data.{StudentId, CourseId, OfferingId, SectionId, ReservationId, OfferingRow, Level, Student, StudentRow, Ask, Reservation, Restriction, Enrolment, Waiting, Want}
use Rattle.sect_model.specs.World.{World, offering_of, is_of, reservation_of, used_by, enrol, held_by}
use Rattle.sect_model.specs.Choice.{lists_section}
use Rattle.sect_model.specs.Counts.{is_at, count_of, used_of}
use Rattle.sect_model.specs.Space.{places_at, names, remaining, has_unlimited, has_place, has_unreserved}
use Rattle.sect_model.specs.Refusals.{restriction_of}
use Rattle.sect_model.specs.GoodWorld.{reservation_fits}
use Rattle.sect_model.specs.Fits.{Fits, changed}
use Rattle.sect_model.specs.Change.{put_student, put_asks, cancel, add_restriction, drop_restriction, expire, put_expiry, add_reservation, drop_reservation, put_day}
use Rattle.sect_model.specs.Kept.{KeptWorld}
use Rattle.sect_model.specs.Freer.{NoMove, stays, given_up, is_level, frees, NoFreer, touches, wants, lists_only, frees_some, flips, ChangesOpenWhatTheyMay}
use Rattle.sect_model.proofs.Members
use Rattle.sect_model.proofs.Members.{Member, all-at, both, both-left, both-right, not_both, not_true, neither-left, neither-right, decide, known-test}
use Rattle.sect_model.proofs.Limits.{same-course}
use Rattle.sect_model.proofs.PutLemmas.{filter-put, find-put}
use Rattle.sect_model.proofs.ReservationChanges.{expire-same}
use Rattle.sect_model.proofs.Easy.{sound}
use Rattle.sect_model.proofs.EnrolLeave.{find-own, some_same}
use Rattle.sect_model.proofs.ChangeLemmas.{changes-keep, new_id}
use Rattle.sect_model.proofs.FreerLemmas.{no-freer, filter-part, find-other, member}
use Rattle.sect_model.proofs.FreerEnrol.{if-not, enrol-opens-nothing}
use Rattle.sect_model.proofs.FreerOfferings.{offering-opens-nothing}
use Rattle.sect_model.proofs.FreerCaps.{cap-opens-nothing}
use Rattle.sect_model.proofs.FreerFrame.{enrol-elsewhere, leave-elsewhere, member-put, names-own}

-- ---- look-ups of what a change leaves alone
pub find-more : {X : Type 0} (test : X → Bool) (x : X) (xs : List X) → test x ≡ false → find test (xs ++ x ∷ []) ≡ find test xs
find-more test x [] h = λ i. cond (h i) (Some x) None
find-more test x (y ∷ ys) h = λ i. cond (test y) (Some y) (find-more test x ys h i)

no_swap : (a b : ℕ) → a == b ≡ false → b == a ≡ false
no_swap a b h = if-not (b == a) (λ t. not_both (a == b) (eq-eqb a b (sym (eqb-true b a t))) h)

-- what is not the student's row
pub row-other : (ss : List Student) (row : StudentRow) (student : StudentId) → row.id.0 == student.0 ≡ false
    → (b : Bool) → find_student (cond b (map (with_row row) ss) (ss ++ record { row = row; asks = [] } ∷ [])) student ≡ find_student ss student
row-other ss row student h false = find-more (λ s. s.row.id.0 == student.0) (record { row = row; asks = [] }) ss h
row-other ss row student h true = find-other (λ s. s.row.id.0 == student.0) (with_row row) ss (λ s. key s (s.row.id.0 == row.id.0) refl) (λ s t. stay s t (s.row.id.0 == row.id.0) refl)
  where
    key : (s : Student) (b : Bool) → s.row.id.0 == row.id.0 ≡ b → (cond b (record s { row = row }) s).row.id.0 == student.0 ≡ s.row.id.0 == student.0
    key s true t = ap (λ n. n == student.0) (sym (eqb-true s.row.id.0 row.id.0 t))
    key s false t = refl

    stay : (s : Student) → s.row.id.0 == student.0 ≡ true → (b : Bool) → s.row.id.0 == row.id.0 ≡ b → cond b (record s { row = row }) s ≡ s
    stay s t true u = absurd (not_both (row.id.0 == student.0) (eq-eqb row.id.0 student.0 (sym (eqb-true s.row.id.0 row.id.0 u) ∙ eqb-true s.row.id.0 student.0 t)) h)
    stay s t false u = refl

pub asks-other : (ss : List Student) (of : StudentId) (asks : List Ask) (student : StudentId) → of.0 == student.0 ≡ false → find_student (map (with_asks of asks) ss) student ≡ find_student ss student
asks-other ss of asks student h = find-other (λ s. s.row.id.0 == student.0) (with_asks of asks) ss (λ s. key s (s.row.id.0 == of.0)) (λ s t. stay s t (s.row.id.0 == of.0) refl)
  where
    key : (s : Student) (b : Bool) → (cond b (record s { asks = asks }) s).row.id.0 == student.0 ≡ s.row.id.0 == student.0
    key s true = refl
    key s false = refl

    stay : (s : Student) → s.row.id.0 == student.0 ≡ true → (b : Bool) → s.row.id.0 == of.0 ≡ b → cond b (record s { asks = asks }) s ≡ s
    stay s t true u = absurd (not_both (of.0 == student.0) (eq-eqb of.0 student.0 (sym (eqb-true s.row.id.0 of.0 u) ∙ eqb-true s.row.id.0 student.0 t)) h)
    stay s t false u = refl

-- ---- changes of students, restrictions and cancelled sections

module _ (w : World) (cancelled : List SectionId) (students : List Student) (restrictions : List Restriction) (es : List Enrolment) where
  abbrev before : World
  before = record w { roster = es }

  abbrev after : World
  after = record w { catalogue = record { rows = w.catalogue.rows; cancelled = cancelled }; students = students; restrictions = restrictions; roster = es }

  place-same : (level : Level) → has_place after level ≡ has_place before level
  place-same (Course id) = refl
  place-same (Offering id) = refl
  place-same (Config id) = refl
  place-same (Section id) = refl

  unreserved-same : (level : Level) → has_unreserved after level ≡ has_unreserved before level
  unreserved-same (Course id) = refl
  unreserved-same (Offering id) = refl
  unreserved-same (Config id) = refl
  unreserved-same (Section id) = refl

  light : (student : StudentId) (want : Want) → find_student students student ≡ find_student w.students student
      → ((s : SectionId) → list_any (λ x. x.0 == s.0) cancelled ≡ false → is_cancelled w.catalogue s ≡ false)
      → ((course : CourseId) (o : OfferingRow) → list_any (λ c. c.0 == course.0) want.courses ≡ true → offering_of w course ≡ Some o
      → filter (λ r. r.offering.0 == o.id.0) restrictions ≡ filter (λ r. r.offering.0 == o.id.0) w.restrictions)
      → NoFreer before after student want
  light student want row gone others = record {
    row = row;
    held = refl;
    same = λ y m. record { offering = λ id. refl; credits = refl; meetings = λ s n. refl; overlap = refl };
    wanted = λ course o wanted its. record {
      row = its;
      credits = refl;
      sections = λ s m. refl;
      cancelled = λ s m h. gone s h;
      reservations = refl;
      found = λ id r h own. h;
      activity = λ r own. refl;
      room = λ id r found own h. h;
      restrictions = others course o wanted its;
      place = λ level is h. sym (place-same level) ∙ h;
      unreserved = λ level is h. sym (unreserved-same level) ∙ h;
    };
  }

-- an offering that isn't wanted is none of the wanted ones
not-wanted : (w : World) (want : Want) (offering : OfferingId) → wants w want offering ≡ false
    → (course : CourseId) (o : OfferingRow) → list_any (λ c. c.0 == course.0) want.courses ≡ true → offering_of w course ≡ Some o → offering.0 == o.id.0 ≡ false
not-wanted w want offering h course o wanted its =
    let c = Members.any-at (λ c. c.0 == course.0) want.courses wanted in
    no_swap o.id.0 offering.0
    (sym (ap (λ x. option_map_or (λ o. o.id.0 == offering.0) x false) (ap (λ d. offering_of w d) (same-course c.0 course (eqb-true c.0.0 course.0 c.2)) ∙ its))
    ∙ Members.none-at (λ c. is_of w offering c) want.courses h c.0 c.1)

cancelled-more : (w : World) (id s : SectionId) (b : Bool) → list_any (λ x. x.0 == s.0) (cond b w.catalogue.cancelled (w.catalogue.cancelled ++ id ∷ [])) ≡ false → is_cancelled w.catalogue s ≡ false
cancelled-more w id s true h = h
cancelled-more w id s false h = Members.none-of (λ x. x.0 == s.0) w.catalogue.cancelled (λ x m. Members.none-at (λ x. x.0 == s.0) (w.catalogue.cancelled ++ id ∷ []) h x (Members.member-left w.catalogue.cancelled (id ∷ []) x m))

-- ---- an enrolment whose reservation lists nothing else

module _ (w : World) (x : Enrolment) (fits : reservation_fits w x ≡ true) where
  of-its : (r : Reservation) (named : Option ReservationId) → option_map_or (λ id. option_map_or (λ r. is_of w r.offering x.choice.course) (reservation_of w id) false) named true ≡ true
      → option_and_then (reservation_of w) named ≡ Some r → is_of w r.offering x.choice.course ≡ true
  of-its r None h e = cc
  of-its r (Some id) h e = ap (λ o. option_map_or (λ r. is_of w r.offering x.choice.course) o false) (sym e) ∙ h

  names-at : (r : Reservation) → is_of w r.offering x.choice.course ≡ true → lists_only x.choice r ≡ true → (level : Level) → names r level ≡ true → is_at w level x ≡ true
  names-at r its only (Course id) n = absurd (not_both false n refl)
  names-at r its only (Offering id) n = ap (λ m. option_map_or (λ o. o.id.0 == m) (offering_of w x.choice.course) false) (sym (eqb-true r.offering.0 id.0 n)) ∙ its
  names-at r its only (Config id) n =
      let c = Members.any-at (λ c. c.0 == id.0) r.includes.configs n in
      eq-eqb x.choice.config.0 id.0 (sym (eqb-true c.0.0 x.choice.config.0 (all-at (λ c. c.0 == x.choice.config.0) r.includes.configs (both-left _ _ only) c.0 c.1)) ∙ eqb-true c.0.0 id.0 c.2)
  names-at r its only (Section id) n =
      let p = Members.any-at (λ p. p.section.0 == id.0) r.includes.sections n in
      ap (λ m. list_any (λ s. s.0 == m) x.choice.sections) (sym (eqb-true p.0.section.0 id.0 p.2))
      ∙ all-at (λ p. lists_section x.choice.sections p.section) r.includes.sections (both-right (list_all (λ c. c.0 == x.choice.config.0) r.includes.configs) _ only) p.0 p.1

  third : (a b c : Bool) → a && b && not c ≡ false → a ≡ true → b ≡ true → c ≡ true
  third a b true h p q = refl
  third a b false h p q = absurd (not_both (a && b && true) (both (a && b) true (both a b p q) refl) h)

  frees-none : frees_some w x.choice ≡ false → (level : Level) → frees w x level ≡ false
  frees-none none level = if-not (frees w x level) (λ t.
      let r = known-test (λ r. active r w.day && is_some (places r.limit) && names r level && not (is_at w level x)) (used_by w x.choice) t in
      let n = both-left _ (not (is_at w level x)) r.2 in
      let a = both-left _ (names r.0 level) n in
      let only = third (active r.0 w.day) (is_some (places r.0.limit)) (lists_only x.choice r.0)
      (sym (ap (λ o. option_map_or (λ r. active r w.day && is_some (places r.limit) && not (lists_only x.choice r)) o false) r.1) ∙ none)
      (both-left _ _ a) (both-right (active r.0 w.day) _ a) in
      not_both (is_at w level x)
      (names-at r.0 (of-its r.0 x.choice.reservation fits r.1) only level (both-right (active r.0 w.day && is_some (places r.0.limit)) _ n))
      (not_true _ (both-right (active r.0 w.day && is_some (places r.0.limit) && names r.0 level) _ r.2)))

not-both-true : (a b : Bool) → a && b ≡ false → (a ≡ false → ⊥) → b ≡ false
not-both-true true b h k = h
not-both-true false b h k = absurd (k refl)

enrolled : (w : World) (e : Waiting) (x : Enrolment) → KeptWorld w → Fits w (Enrol x) → x.student.0 == e.student.0 ≡ false → touches w e.want x.choice.course && frees_some w x.choice ≡ false
    → NoMove w e → NoMove (enrol w x.student x.choice) e
enrolled w e x k fits unlike h none = by_touch (touches w e.want x.choice.course) refl
  where
    by_touch : (b : Bool) → touches w e.want x.choice.course ≡ b → NoMove (enrol w x.student x.choice) e
    by_touch false t = (enrol-elsewhere w e x k fits unlike t).0 none
    by_touch true t =
        enrol-opens-nothing w e x k unlike
        (λ course o level wanted its is. frees-none w x
        (sound (changed w (Enrol x)) (changes-keep w (Enrol x) k fits).good x (member-put (λ y. y.student.0) x w.roster)).reservation
        (sym (ap (λ b. b && frees_some w x.choice) t) ∙ h) level)
        none

-- ---- changes of reservations and of the day

pub filter-other : {X : Type 0} (p : X → Bool) (f : X → X) (xs : List X) → ((x : X) → p (f x) ≡ p x) → ((x : X) → Member xs x → p x ≡ true → f x ≡ x) → filter p (map f xs) ≡ filter p xs
filter-other p f [] same stay = refl
filter-other {X = X} p f (x ∷ xs) same stay =
    (λ i. cond (same x i) (f x ∷ filter-other p f xs same (λ y m. stay y (inr m)) i) (filter-other p f xs same (λ y m. stay y (inr m)) i))
    ∙ by_test (p x) (stay x (inl refl))
  where
    by_test : (b : Bool) → (b ≡ true → f x ≡ x) → cond b (f x ∷ filter p xs) (filter p xs) ≡ cond b (x ∷ filter p xs) (filter p xs)
    by_test true h = ap (λ y. y ∷ filter p xs) (h refl)
    by_test false h = refl

module _ (w : World) (k : KeptWorld w) (rs : List Reservation) (day : ℕ) (kept : KeptWorld (record w { reservations = rs; day = day })) (keep : Enrolment → Bool) where
  abbrev es : List Enrolment
  es = filter keep w.roster

  abbrev was : World
  was = record w { roster = es }

  abbrev is : World
  is = record w { reservations = rs; day = day; roster = es }

  count-kept : (level : Level) → count_of is level ≡ count_of was level
  count-kept (Course id) = refl
  count-kept (Offering id) = refl
  count-kept (Config id) = refl
  count-kept (Section id) = refl

  places-kept : (level : Level) → places_at is level ≡ places_at was level
  places-kept (Course id) = refl
  places-kept (Offering id) = refl
  places-kept (Config id) = refl
  places-kept (Section id) = refl

  -- what an offering's reservations are after the change
  pub record SameReserved (o : OfferingRow) : Type 0 where
    pub own : filter (λ r. r.offering.0 == o.id.0) rs ≡ filter (λ r. r.offering.0 == o.id.0) w.reservations
    pub activity : (r : Reservation) → Member (filter (λ r. r.offering.0 == o.id.0) w.reservations) r → active r day ≡ active r w.day

  module _ (course : CourseId) (o : OfferingRow) (its : offering_of w course ≡ Some o) (same : SameReserved o) where
    active-same : (level : Level) → is_level o course level ≡ true → filter (λ r. active r day && names r level) rs ≡ filter (λ r. active r w.day && names r level) w.reservations
    active-same level on =
        sym (filter-part (λ r. active r day && names r level) (λ r. r.offering.0 == o.id.0) rs (λ r m t.
        names-own (record w { reservations = rs; day = day }) kept course o its r m level on (both-right (active r day) _ t)))
        ∙ ap (filter (λ r. active r day && names r level)) same.own
        ∙ Members.filter-same (λ r. active r day && names r level) (λ r. active r w.day && names r level) (filter (λ r. r.offering.0 == o.id.0) w.reservations) (λ r m. λ i. same.activity r m i && names r level)
        ∙ filter-part (λ r. active r w.day && names r level) (λ r. r.offering.0 == o.id.0) w.reservations (λ r m t.
        names-own w k course o its r m level on (both-right (active r w.day) _ t))

    unreserved-kept : (level : Level) → is_level o course level ≡ true → has_unreserved is level ≡ has_unreserved was level
    unreserved-kept level on = λ i.
        option_map_or (int_lt (pos 0)) (option_map (λ limit.
        cond (has_unlimited (active-same level on i)) (pos 0) (pos limit -ℤ pos (count-kept level i + sum_by (remaining was) (active-same level on i)))) (places-kept level i)) true

    place-kept : (level : Level) → has_place is level ≡ has_place was level
    place-kept (Course id) = refl
    place-kept (Offering id) = refl
    place-kept (Config id) = refl
    place-kept (Section id) = refl

    found-kept : (id : ReservationId) (r : Reservation) → find (λ r. r.id.0 == id.0) rs ≡ Some r → r.offering.0 == o.id.0 ≡ true → reservation_of w id ≡ Some r
    found-kept id r e own =
        let f = Members.find-member (λ r. r.id.0 == id.0) rs r e in
        let there = Members.member-filter (λ r. r.offering.0 == o.id.0) w.reservations r
        (subst (λ xs. Member xs r) same.own (Members.member-of_filter (λ r. r.offering.0 == o.id.0) rs r f.0 own)) in
        find-own (λ r. r.id.0) w.reservations k.reservations_differ r there.0 id.0 (eqb-true r.id.0 id.0 f.1)

  -- the reservations of the roster permit overlap as before
  abbrev pub SameOverlap : Type 0
  SameOverlap = (y : Enrolment) → Member w.roster y → (id : ReservationId) → y.choice.reservation ≡ Some id → (old : Reservation) → reservation_of w id ≡ Some old
      → (new : Reservation) × (find (λ r. r.id.0 == id.0) rs ≡ Some new) × (new.overlap ≡ old.overlap)

  overlap-kept : SameOverlap → (y : Enrolment) → Member w.roster y → (named : Option ReservationId) → y.choice.reservation ≡ named
      → option_map_or (λ id. option_map_or (λ r. is_of w r.offering y.choice.course) (reservation_of w id) false) named true ≡ true
      → option_map_or (λ r. r.overlap) (option_and_then (λ id. find (λ r. r.id.0 == id.0) rs) named) false ≡ option_map_or (λ r. r.overlap) (option_and_then (reservation_of w) named) false
  overlap-kept h y m None e fits = refl
  overlap-kept h y m (Some id) e fits =
      let old = known-test (λ r. is_of w r.offering y.choice.course) (reservation_of w id) fits in
      let new = h y m id e old.0 old.1 in
      ap (λ o. option_map_or (λ r. r.overlap) o false) new.1 ∙ new.2 ∙ ap (λ o. option_map_or (λ r. r.overlap) o false) (sym old.1)

  reserved : (student : StudentId) (want : Want) → SameOverlap
      → ((course : CourseId) (o : OfferingRow) → list_any (λ c. c.0 == course.0) want.courses ≡ true → offering_of w course ≡ Some o → SameReserved o)
      → NoFreer was is student want
  reserved student want overlap others = record {
    row = refl;
    held = refl;
    same = λ y a.
        let m = (Members.member-filter keep w.roster y (Members.member-filter (λ y. y.student.0 == student.0) es y (member (held_by was student) y a)).0).0 in
        record { offering = λ id. refl; credits = refl; meetings = λ s n. refl; overlap = overlap-kept overlap y m y.choice.reservation refl (sound w k.good y m).reservation };
    wanted = λ course o wanted its. record {
      row = its;
      credits = refl;
      sections = λ s m. refl;
      cancelled = λ s m h. h;
      reservations = (others course o wanted its).own;
      found = λ id r h own. found-kept course o its (others course o wanted its) id r h own;
      activity = λ r a. (others course o wanted its).activity r (member (filter (λ r. r.offering.0 == o.id.0) w.reservations) r a);
      room = λ id r found own h. h;
      restrictions = refl;
      place = λ level on h. sym (place-kept course o its (others course o wanted its) level) ∙ h;
      unreserved = λ level on h. sym (unreserved-kept course o its (others course o wanted its) level on) ∙ h;
    };
  }

pub not-flipped : (a b : Bool) → cond a (not b) b ≡ false → b ≡ a
not-flipped true true h = refl
not-flipped true false h = absurd (not_both true refl h)
not-flipped false true h = absurd (not_both true refl h)
not-flipped false false h = refl

day-same : (w : World) (want : Want) (day : ℕ) → list_any (λ r. wants w want r.offering && flips w day r) w.reservations ≡ false
    → (course : CourseId) (o : OfferingRow) → list_any (λ c. c.0 == course.0) want.courses ≡ true → offering_of w course ≡ Some o
    → (r : Reservation) → Member (filter (λ r. r.offering.0 == o.id.0) w.reservations) r → active r day ≡ active r w.day
day-same w want day h course o wanted its r m = by_wanted (wants w want r.offering) refl
  where
    there : Member w.reservations r × (r.offering.0 == o.id.0 ≡ true)
    there = Members.member-filter (λ r. r.offering.0 == o.id.0) w.reservations r m

    by_wanted : (b : Bool) → wants w want r.offering ≡ b → active r day ≡ active r w.day
    by_wanted false t = absurd (not_both (r.offering.0 == o.id.0) there.1 (not-wanted w want r.offering t course o wanted its))
    by_wanted true t =
        not-flipped (active r w.day) (active r day)
        (sym (ap (λ b. b && flips w day r) t) ∙ Members.none-at (λ r. wants w want r.offering && flips w day r) w.reservations h r there.0)

-- a look-up that finds an old one doesn't pass the new one
not-this : (w : World) (r old : Reservation) (id : ReservationId) → is_some (reservation_of w r.id) ≡ false → reservation_of w id ≡ Some old → r.id.0 == id.0 ≡ false
not-this w r old id new found = if-not (r.id.0 == id.0) (λ t.
    not_both (is_some (reservation_of w r.id)) (ap (λ n. is_some (find (λ r. r.id.0 == n) w.reservations)) (eqb-true r.id.0 id.0 t) ∙ ap is_some found) new)

-- the reservation of an id is the one that is found
the-one : (w : World) → KeptWorld w → (id : ReservationId) (r x : Reservation) → reservation_of w id ≡ Some r → Member w.reservations x → x.id.0 == id.0 ≡ true → r ≡ x
the-one w k id r x found m t = some_same r x (sym found ∙ find-own (λ y. y.id.0) w.reservations k.reservations_differ x m id.0 (eqb-true x.id.0 id.0 t))

-- and where its offering isn't wanted, one of a wanted offering has another id
other-id : (w : World) → KeptWorld w → (want : Want) (id : ReservationId) (r : Reservation) → reservation_of w id ≡ Some r → wants w want r.offering ≡ false
    → (course : CourseId) (o : OfferingRow) → list_any (λ c. c.0 == course.0) want.courses ≡ true → offering_of w course ≡ Some o
    → (x : Reservation) → Member w.reservations x → x.offering.0 == o.id.0 ≡ true → x.id.0 == id.0 ≡ false
other-id w k want id r found h course o wanted its x m own = if-not (x.id.0 == id.0) (λ t.
    not_both (x.offering.0 == o.id.0) own (ap (λ y. y.offering.0 == o.id.0) (sym (the-one w k id r x found m t)) ∙ not-wanted w want r.offering h course o wanted its))

pub unlike-used : (w : World) (id : ReservationId) → used_of w id ≡ 0 → (y : Enrolment) → Member w.roster y → (x : ReservationId) → y.choice.reservation ≡ Some x
    → (r : Reservation) → r.id.0 == x.0 ≡ true → r.id.0 == id.0 ≡ false
unlike-used w id none y m x n r t = if-not (r.id.0 == id.0) (λ u.
    not_both (x.0 == id.0) (eq-eqb x.0 id.0 (sym (eqb-true r.id.0 x.0 t) ∙ eqb-true r.id.0 id.0 u))
    (ap (λ o. option_map_or (λ r. r.0 == id.0) o false) (sym n) ∙ Members.none-count (λ e. option_map_or (λ r. r.0 == id.0) e.choice.reservation false) w.roster none y m))

pub changes-open : ChangesOpenWhatTheyMay
changes-open w e (new_offering row) k fits known h none = offering-opens-nothing w e row k known none
changes-open w e (new_student row) k fits known h none =
    no-freer w (put_student w row) e
    (light w w.catalogue.cancelled (put_student w row).students w.restrictions (given_up w e).roster e.student e.want
    (row-other w.students row e.student h (is_some (find_student w.students row.id))) (λ s t. t) (λ course o wanted its. refl)) none
changes-open w e (Requests student asks) k fits known h none =
    no-freer w (put_asks w student asks) e
    (light w w.catalogue.cancelled (put_asks w student asks).students w.restrictions (given_up w e).roster e.student e.want
    (asks-other w.students student asks e.student h) (λ s t. t) (λ course o wanted its. refl)) none
changes-open w e (Reserve r) k fits known h none =
    no-freer w (add_reservation w r) e
    (reserved w k (add_reservation w r).reservations w.day (changes-keep w (Reserve r) k fits) (stays e) e.student e.want
    (λ y m id n old f. (old, find-put (λ r. r.offering.0) (λ r. r.id.0 == id.0) r w.reservations (not-this w r old id (new_id w r fits) f) ∙ f, refl))
    (λ course o wanted its. record {
      own = filter-put (λ x. x.offering.0) (λ x. x.offering.0 == o.id.0) r w.reservations (not-wanted w e.want r.offering h course o wanted its);
      activity = λ x m. refl;
    })) none
changes-open w e (Unreserve id) k fits known h none =
    let r = Members.known (reservation_of w id) (both-left _ _ fits) in
    let unused : used_of w id ≡ 0 = eqb-true (used_of w id) 0 (both-right (is_some (reservation_of w id)) _ fits) in
    no-freer w (drop_reservation w id) e
    (reserved w k (drop_reservation w id).reservations w.day (changes-keep w (Unreserve id) k fits) (stays e) e.student e.want
    (λ y m x n old f. (
      old,
      Members.find-filter (λ r. r.id.0 == x.0) (λ r. not (r.id.0 == id.0)) w.reservations (λ r t. Members.if_false (r.id.0 == id.0) (unlike-used w id unused y m x n r t)) ∙ f,
      refl,
    ))
    (λ course o wanted its. record {
      own = filter-part (λ x. x.offering.0 == o.id.0) (λ x. not (x.id.0 == id.0)) w.reservations (λ x m own.
          Members.if_false (x.id.0 == id.0) (other-id w k e.want id r.0 r.1 (sym (ap (λ y. option_map_or (λ r. wants w e.want r.offering) y false) r.1) ∙ h) course o wanted its x m own));
      activity = λ x m. refl;
    })) none
changes-open w e (Expiry id day) k fits known h none =
    let r = Members.known (reservation_of w id) fits in
    no-freer w (put_expiry w id day) e
    (reserved w k (put_expiry w id day).reservations w.day (changes-keep w (Expiry id day) k fits) (stays e) e.student e.want
    (λ y m x n old f. (
      expire id day old,
      Members.find-map (λ r. r.id.0 == x.0) (expire id day) w.reservations (λ r. expire-same w k (λ r. r.id.0 == x.0) id day (λ r. refl) r) ∙ ap (option_map (expire id day)) f,
      expire-same w k (λ r. r.overlap) id day (λ r. refl) old,
    ))
    (λ course o wanted its. record {
      own = filter-other (λ x. x.offering.0 == o.id.0) (expire id day) w.reservations (λ x. expire-same w k (λ x. x.offering.0 == o.id.0) id day (λ x. refl) x) (λ x m own.
          ap (λ b. cond b (record x { expiry = day }) x) (other-id w k e.want id r.0 r.1 (sym (ap (λ y. option_map_or (λ r. wants w e.want r.offering) y false) r.1) ∙ h) course o wanted its x m own));
      activity = λ x m. refl;
    })) none
changes-open w e (Restrict r) k fits known h none =
    no-freer w (add_restriction w r) e
    (light w w.catalogue.cancelled w.students (add_restriction w r).restrictions (given_up w e).roster e.student e.want refl (λ s t. t)
    (λ course o wanted its. filter-put (λ x. x.offering.0) (λ x. x.offering.0 == o.id.0) r w.restrictions (not-wanted w e.want r.offering h course o wanted its))) none
changes-open w e (Unrestrict id) k fits known h none =
    let r = Members.known (restriction_of w id) fits in
    no-freer w (drop_restriction w id) e
    (light w w.catalogue.cancelled w.students (drop_restriction w id).restrictions (given_up w e).roster e.student e.want refl (λ s t. t)
    (λ course o wanted its. filter-part (λ x. x.offering.0 == o.id.0) (λ x. not (x.id.0 == id.0)) w.restrictions (λ x m own.
    Members.if_false (x.id.0 == id.0) (if-not (x.id.0 == id.0) (λ t.
    let same : r.0 ≡ x = some_same r.0 x (sym r.1 ∙ find-own (λ y. y.id.0) w.restrictions k.restrictions_differ x m id.0 (eqb-true x.id.0 id.0 t)) in
    not_both (x.offering.0 == o.id.0) own
    (ap (λ y. y.offering.0 == o.id.0) (sym same)
    ∙ not-wanted w e.want r.0.offering (sym (ap (λ y. option_map_or (λ r. wants w e.want r.offering) y false) r.1) ∙ h) course o wanted its)))))) none
changes-open w e (Cap cap limit) k fits known h none = cap-opens-nothing w e cap limit k known h none
changes-open w e (Cancelled id) k fits known h none =
    no-freer w (cancel w id) e
    (light w (cancel w id).catalogue.cancelled w.students w.restrictions (given_up w e).roster e.student e.want refl
    (λ s t. cancelled-more w id s (is_cancelled w.catalogue id) t) (λ course o wanted its. refl)) none
changes-open w e (Day day) k fits known h none =
    no-freer w (put_day w day) e
    (reserved w k w.reservations day (changes-keep w (Day day) k fits) (stays e) e.student e.want (λ y m id n old f. (old, f, refl))
    (λ course o wanted its. record { own = refl; activity = day-same w e.want day h course o wanted its })) none
changes-open w e (Enrol x) k fits known h none = enrolled w e x k fits (neither-left _ _ h) (neither-right (x.student.0 == e.student.0) _ h) none
changes-open w e (Leave student course) k fits known h none =
    (leave-elsewhere w e student course k (neither-left _ _ h) (neither-right (student.0 == e.student.0) _ h)).0 none
