-- Worlds with the same roster read the same for a want where its offerings have the same rows, reservations and restrictions.
use Rattle.std.specs.Prelude.{◌≡◌, ◌+◌, pos, ◌-ℤ◌, int_lt, true, ◌&&◌, ◌==◌, nat_lt, cond, List, length, filter, find, sum_by, Some, refl}
use Rattle.std.specs.List.{list_any}
use Rattle.std.specs.Option.{option_map, option_map_or, option_and_then}
use Rattle.std.proofs.Common.{sym, ◌∙◌, ap, subst}
use Rattle.std.proofs.lemmas.Bool.{eqb-true}
use Rattle.sect_base.specs.declared.limit.Level.TheVariants.{Course, Offering, Config, Section}
use Rattle.sect_people.specs.Student.{find_student}
use Rattle.sect_catalog.specs.Catalogue.{places, places_of_all, all_courses, find_course, find_section, has_course, is_cancelled}
use Rattle.sect_reserve.specs.Audience.{active}
use Rattle.sect_model.specs.Data.{StudentId, CourseId, SectionId, ReservationId, OfferingRow, Level, Reservation, Want}
use Rattle.sect_model.specs.declared.held.Enrolment.{Enrolment}
use Rattle.sect_model.specs.declared.held.Waiting.{Waiting}
use Rattle.sect_model.specs.World.{World, offering_of, reservation_of, held_by}
use Rattle.sect_model.specs.Counts.{is_at, count_of}
use Rattle.sect_model.specs.Space.{places_at, names, active_at, remaining, has_unlimited, has_place, has_unreserved}
use Rattle.sect_model.specs.Allowed.{reservations_of, restrictions_of}
use Rattle.sect_model.specs.Kept.{KeptWorld, entry_fits}
use Rattle.sect_model.specs.Freer.{stays, given_up, has_section, is_level, SameHeld, NoFreerIn, NoFreer}
use Rattle.sect_model.proofs.Members
use Rattle.sect_model.proofs.Members.{Member, both-right, known}
use Rattle.sect_model.proofs.EnrolLeave.{find-own, some_same}
use Rattle.sect_model.proofs.FreerLemmas.{member, filter-part}
use Rattle.sect_model.proofs.FreerFrame.{names-own}
use Rattle.sect_model.proofs.FreerOfferings.{wanted-known}
use Rattle.sect_frame.specs.Frame.{ReadsSame}
use Rattle.sect_frame.proofs.FoundLemmas

-- the offering of the course is the same, and so is what stands beside its row
pub record SameParts (w v : World) (course : CourseId) (o : OfferingRow) : Type 0 where
  pub row : offering_of v course ≡ Some o
  pub cancelled : (s : SectionId) → has_section o s ≡ true → is_cancelled v.catalogue s ≡ is_cancelled w.catalogue s
  pub reservations : reservations_of v o.id ≡ reservations_of w o.id
  pub activity : (r : Reservation) → Member (reservations_of w o.id) r → active r v.day ≡ active r w.day
  pub restrictions : restrictions_of v o.id ≡ restrictions_of w o.id

-- and the other way round
turned : (w v : World) (course : CourseId) (o : OfferingRow) → offering_of w course ≡ Some o → SameParts w v course o → SameParts v w course o
turned w v course o its p = record {
  row = its;
  cancelled = λ s on. sym (p.cancelled s on);
  reservations = sym p.reservations;
  activity = λ r m. sym (p.activity r (subst (λ rs. Member rs r) p.reservations m));
  restrictions = sym p.restrictions;
}

held-turned : (w v : World) (y : Enrolment) → SameHeld w v y.choice → SameHeld v w y.choice
held-turned w v y h = record { offering = λ id. sym (h.offering id); credits = sym h.credits; meetings = λ s m. sym (h.meetings s m); overlap = sym h.overlap }

module _ (w v : World) (k : KeptWorld w) (kv : KeptWorld v) (es : List Enrolment) (reads : (y : Enrolment) → Member es y → SameHeld w v y.choice) where
  abbrev was : World
  was = record w { roster = es }

  abbrev is : World
  is = record v { roster = es }

  count-same : (level : Level) → count_of is level ≡ count_of was level
  count-same (Course id) = refl
  count-same (Offering id) = ap length (Members.filter-same (is_at is (Offering id)) (is_at was (Offering id)) es (λ y m. (reads y m).offering id))
  count-same (Config id) = refl
  count-same (Section id) = refl

  module _ (course : CourseId) (o : OfferingRow) (its : offering_of w course ≡ Some o) (p : SameParts w v course o) where
    in-w : Member w.catalogue.rows o × (has_course o course ≡ true)
    in-w = Members.find-member (λ o. has_course o course) w.catalogue.rows o its

    in-v : Member v.catalogue.rows o × (has_course o course ≡ true)
    in-v = Members.find-member (λ o. has_course o course) v.catalogue.rows o p.row

    course-same : find_course v.catalogue.rows course ≡ find_course w.catalogue.rows course
    course-same =
        FoundLemmas.its-course v.catalogue.rows kv.rows_pass o in-v.0 course in-v.1
        ∙ sym (FoundLemmas.its-course w.catalogue.rows k.rows_pass o in-w.0 course in-w.1)

    section-same : (s : SectionId) → has_section o s ≡ true → find_section v.catalogue.rows s ≡ find_section w.catalogue.rows s
    section-same s on =
        FoundLemmas.its-section v.catalogue.rows kv.rows_pass o in-v.0 s on
        ∙ sym (FoundLemmas.its-section w.catalogue.rows k.rows_pass o in-w.0 s on)

    places-same : (level : Level) → is_level o course level ≡ true → places_at is level ≡ places_at was level
    places-same (Course id) on =
        ap (option_and_then (λ c. places c.limit))
        (subst (λ n. find (λ c. c.id.0 == n) (all_courses v.catalogue.rows) ≡ find (λ c. c.id.0 == n) (all_courses w.catalogue.rows)) (eqb-true course.0 id.0 on) course-same)
    places-same (Offering id) on =
        ap (option_and_then (λ o. places_of_all o.configs))
        (subst (λ n. find (λ o. o.id.0 == n) v.catalogue.rows ≡ find (λ o. o.id.0 == n) w.catalogue.rows) (eqb-true o.id.0 id.0 on)
        (FoundLemmas.itself v.catalogue.rows kv.rows_pass o in-v.0 ∙ sym (FoundLemmas.itself w.catalogue.rows k.rows_pass o in-w.0)))
    places-same (Config id) on =
        ap (option_and_then (λ g. places g.limit))
        (FoundLemmas.its-config v.catalogue.rows kv.rows_pass o in-v.0 id on ∙ sym (FoundLemmas.its-config w.catalogue.rows k.rows_pass o in-w.0 id on))
    places-same (Section id) on = ap (option_and_then (λ s. places s.limit)) (section-same id on)

    active-same : (level : Level) → is_level o course level ≡ true → active_at v level ≡ active_at w level
    active-same level on =
        sym (filter-part (λ r. active r v.day && names r level) (λ r. r.offering.0 == o.id.0) v.reservations
        (λ r m t. names-own v kv course o p.row r m level on (both-right (active r v.day) _ t)))
        ∙ ap (filter (λ r. active r v.day && names r level)) p.reservations
        ∙ Members.filter-same (λ r. active r v.day && names r level) (λ r. active r w.day && names r level) (reservations_of w o.id) (λ r m i. p.activity r m i && names r level)
        ∙ filter-part (λ r. active r w.day && names r level) (λ r. r.offering.0 == o.id.0) w.reservations
        (λ r m t. names-own w k course o its r m level on (both-right (active r w.day) _ t))

    place-same : (level : Level) → is_level o course level ≡ true → has_place is level ≡ has_place was level
    place-same level on = λ i. option_map_or (nat_lt (count-same level i)) (places-same level on i) true

    unreserved-same : (level : Level) → is_level o course level ≡ true → has_unreserved is level ≡ has_unreserved was level
    unreserved-same level on = λ i.
        option_map_or (int_lt (pos 0)) (option_map (λ limit.
        cond (has_unlimited (active-same level on i)) (pos 0) (pos limit -ℤ pos (count-same level i + sum_by (remaining was) (active-same level on i)))) (places-same level on i)) true

    found-same : (id : ReservationId) (r : Reservation) → reservation_of v id ≡ Some r → r.offering.0 == o.id.0 ≡ true → reservation_of w id ≡ Some r
    found-same id r e own =
        let f = Members.find-member (λ r. r.id.0 == id.0) v.reservations r e in
        let there = Members.member-filter (λ r. r.offering.0 == o.id.0) w.reservations r
        (subst (λ rs. Member rs r) p.reservations (Members.member-of_filter (λ r. r.offering.0 == o.id.0) v.reservations r f.0 own)) in
        find-own (λ r. r.id.0) w.reservations k.reservations_differ r there.0 id.0 (eqb-true r.id.0 id.0 f.1)

    same-in : NoFreerIn was is course o
    same-in = record {
      row = its;
      credits = ap (λ x. option_map_or (λ c. c.credits) x 0) course-same;
      sections = section-same;
      cancelled = λ s on h. sym (p.cancelled s on) ∙ h;
      reservations = p.reservations;
      found = found-same;
      activity = λ r a. p.activity r (member (reservations_of w o.id) r a);
      room = λ id r found own h. h;
      restrictions = p.restrictions;
      place = λ level on h. sym (place-same level on) ∙ h;
      unreserved = λ level on h. sym (unreserved-same level on) ∙ h;
    }

  no-freer-parts : (student : StudentId) (want : Want) → find_student v.students student ≡ find_student w.students student
      → ((course : CourseId) (o : OfferingRow) → list_any (λ c. c.0 == course.0) want.courses ≡ true → offering_of v course ≡ Some o → (offering_of w course ≡ Some o) × SameParts w v course o)
      → NoFreer was is student want
  no-freer-parts student want row parts = record {
    row = row;
    held = refl;
    same = λ y a.
        let m = Members.member-filter (λ y. y.student.0 == student.0) es y (member (held_by was student) y a) in
        let h = reads y m.0 in
        record { offering = h.offering; credits = h.credits; meetings = h.meetings; overlap = h.overlap };
    wanted = λ course o wanted its. let p = parts course o wanted its in same-in course o p.0 p.1;
  }

-- where nothing else changes for it, the worlds read the same for the entry
pub same-reads : (w v : World) → KeptWorld w → KeptWorld v → v.roster ≡ w.roster → (e : Waiting) → entry_fits w e ≡ true
    → ((y : Enrolment) → Member w.roster y → SameHeld w v y.choice) → find_student v.students e.student ≡ find_student w.students e.student
    → ((course : CourseId) (o : OfferingRow) → list_any (λ c. c.0 == course.0) e.want.courses ≡ true → offering_of w course ≡ Some o → SameParts w v course o)
    → ReadsSame w v e
same-reads w v k kv roster e fits reads row parts = record {
  forth = subst (λ es. NoFreer (given_up w e) (record v { roster = filter (stays e) es }) e.student e.want) (sym roster)
      (no-freer-parts w v k kv (filter (stays e) w.roster) reads_here e.student e.want row (λ course o wanted its.
      let old = known (offering_of w course) (wanted-known w e fits course wanted) in
      let p = parts course old.0 wanted old.1 in
      subst (λ x. (offering_of w course ≡ Some x) × SameParts w v course x) (some_same old.0 o (sym p.row ∙ its)) (old.1, p)));
  back = subst (λ es. NoFreer (record v { roster = filter (stays e) es }) (given_up w e) e.student e.want) (sym roster)
      (no-freer-parts v w kv k (filter (stays e) w.roster) (λ y m. held-turned w v y (reads_here y m)) e.student e.want (sym row) (λ course o wanted its.
      let p = parts course o wanted its in (p.row, turned w v course o its p)));
}
  where
    reads_here : (y : Enrolment) → Member (filter (stays e) w.roster) y → SameHeld w v y.choice
    reads_here y m = reads y (Members.member-filter (stays e) w.roster y m).0
