-- In worlds that read the same for a want, each decision breaks the same rule.
use Rattle.std.specs.Prelude.{◌≡◌, ℕ, ◌+◌, ℤ, pos, int_lt, int_le, nat_lt, nat_le, Bool, true, false, not, ◌&&◌, ◌||◌, ◌==◌, cond, List, [], ◌∷◌, ◌++◌, length, map, filter, flat_map, sum_by, filter_map, slice_get, Option, Some, None, refl}
use Rattle.std.specs.List.{list_any, enumerate_from}
use Rattle.std.specs.Bool.{then_some}
use Rattle.std.specs.Option.{option_map_or, option_and_then, is_none}
use Rattle.std.proofs.Common.{sym, ◌∙◌, ap, arith, inl, inr}
use Rattle.std.proofs.lemmas.Bool.{eq-eqb}
use Rattle.std.proofs.lemmas.Bool.Decides.{nat_tests}
use Rattle.std.proofs.lemmas.Int.{ints}
use Rattle.sect_base.specs.declared.rule.Rule.TheVariants.{InOffering, Credits, NotApplicable, Expired, UsedUp, MustUse, CourseFull, OfferingFull, OfferingReserved, ConfigFull, ConfigReserved, NotIncluded, Restricted, Cancelled, Parent, SectionFull, SectionReserved, Overlap, FreeTime, NotAsked}
use Rattle.sect_base.specs.declared.limit.Level.TheVariants.{Course, Offering, Config, Section}
use Rattle.sect_base.specs.Pattern.{lists_overlap}
use Rattle.sect_catalog.specs.Catalogue.{is_cancelled, places}
use Rattle.sect_reserve.specs.Audience.{active, applies, admits_config, admits_section, empty_or_any}
use Rattle.sect_model.specs.Data.{StudentId, CourseId, OfferingId, ConfigId, SectionId, ReservationId, Audience, OfferingRow, Level, Reservation, Want}
use Rattle.sect_model.specs.declared.held.Enrolment.{Enrolment}
use Rattle.sect_model.specs.declared.pick.Pick.TheVariants.{Course as picks_course, Reservation as picks_reservation, Config as picks_config, Section as picks_section}
use Rattle.sect_model.specs.World.{World, offering_of, is_of, credits_of, meetings_of, reservation_of, held_by}
use Rattle.sect_model.specs.Overlap.{sections_overlap}
use Rattle.sect_model.specs.Choice.{has_parent, config_in, subparts_of}
use Rattle.sect_model.specs.Counts.{permits_over, used_of}
use Rattle.sect_model.specs.Space.{has_place, has_unreserved, unreserved_of, named_by}
use Rattle.sect_model.specs.Allowed.{holds_offering, credits_held, max_credits, applies_to, reservations_of, must_use, restrictions_for, free_times, free_before, permits_overlap}
use Rattle.sect_model.specs.Path.{Path}
use Rattle.sect_model.specs.Rules.{least, is_full, is_reserved, is_kept, course_rules, chosen_rules, none_rules, offering_rules, reservation_rules, is_restricted, config_rules, held_overlaps, own_overlaps, section_rules, rules_on}
use Rattle.sect_model.specs.Kept.{has_config}
use Rattle.sect_model.specs.Freer.{has_section, is_level, has_room, SameHeld, NoFreerIn, NoFreer}
use Rattle.sect_model.proofs.Members
use Rattle.sect_model.proofs.Members.{Member, same_test, known-test}
use Rattle.sect_model.proofs.FreerLemmas.{any-same, among, filter-and}
use Rattle.sect_model.proofs.StageLemmas.{open_path}
use Rattle.sect_model.proofs.WantLemmas.{is_own}

same-false : (a b : Bool) → (a ≡ false → b ≡ false) → (b ≡ false → a ≡ false) → a ≡ b
same-false true true f g = refl
same-false true false f g = g refl
same-false false b f g = sym (f refl)

flat-same : {X Y : Type 0} (f g : X → List Y) (xs : List X) → ((x : X) → Member xs x → f x ≡ g x) → flat_map f xs ≡ flat_map g xs
flat-same f g [] h = refl
flat-same f g (x ∷ xs) h = λ i. h x (inl refl) i ++ flat-same f g xs (λ y m. h y (inr m)) i

not-lt : (l n : ℕ) → nat_le l n ≡ not (nat_lt n l)
not-lt l n = grind (arith, nat_tests)

used-up : (o : Option ℕ) (n : ℕ) → option_map_or (λ l. nat_le l n) o false ≡ not (option_map_or (nat_lt n) o true)
used-up None n = refl
used-up (Some l) n = not-lt l n

used-same : (o : Option ℕ) (m n : ℕ) → option_map_or (nat_lt m) o true ≡ option_map_or (nat_lt n) o true
    → option_map_or (λ l. nat_le l m) o false ≡ option_map_or (λ l. nat_le l n) o false
used-same o m n h = used-up o m ∙ ap not h ∙ sym (used-up o n)

not-positive : (z : ℤ) → int_le z (pos 0) ≡ not (int_lt (pos 0) z)
not-positive z = grind (arith, ints)

without-space : (space : Option ℤ) → option_map_or (λ z. int_le z (pos 0)) space false ≡ not (option_map_or (int_lt (pos 0)) space true)
without-space None = refl
without-space (Some z) = not-positive z

module _ (w v : World) (student : StudentId) (want : Want) (f : NoFreer w v student want) (g : NoFreer v w student want) where
  -- ---- the student

  max-same : max_credits v student ≡ max_credits w student
  max-same = ap (λ x. option_map_or (λ s. s.row.max_credits) x 0) f.row

  applies-same : (course : CourseId) (a : Audience) → applies_to v student course a ≡ applies_to w student course a
  applies-same course a = ap (λ x. option_map_or (λ s. applies a student s.row.groups s.row.curricula course) x false) f.row

  free-same : free_times v student want.rank ≡ free_times w student want.rank
  free-same = ap (λ x. option_map_or (λ s. filter_map (free_before want.rank) (enumerate_from 1 s.asks)) x []) f.row

  held-same : (x : Enrolment) → Member (held_by w student) x → SameHeld w v x.choice
  held-same x m = f.same x (among (held_by w student) x m)

  holds-same : (offering : OfferingId) → holds_offering v student offering ≡ holds_offering w student offering
  holds-same offering =
      ap (λ es. list_any (λ e. is_of v offering e.choice.course) es) f.held
      ∙ any-same (λ e. is_of v offering e.choice.course) (λ e. is_of w offering e.choice.course) (held_by w student) (λ x m. (held-same x m).offering offering)

  credits-same : credits_held v student ≡ credits_held w student
  credits-same =
      ap (λ es. sum_by (λ e. credits_of v e.choice.course) es) f.held
      ∙ Members.sum-same (λ e. credits_of v e.choice.course) (λ e. credits_of w e.choice.course) (held_by w student) (λ x m. (held-same x m).credits)

  -- ---- a wanted offering

  module _ (course : CourseId) (o : OfferingRow) (wanted : list_any (λ c. c.0 == course.0) want.courses ≡ true) (its : offering_of w course ≡ Some o) where
    back : NoFreerIn v w course o
    back = g.wanted course o wanted its

    pub there : offering_of v course ≡ Some o
    there = back.row

    here : NoFreerIn w v course o
    here = f.wanted course o wanted there

    place-same : (level : Level) → is_level o course level ≡ true → has_place v level ≡ has_place w level
    place-same level on = same_test (has_place v level) (has_place w level) (here.place level on) (back.place level on)

    space-same : (level : Level) → is_level o course level ≡ true → has_unreserved v level ≡ has_unreserved w level
    space-same level on = same_test (has_unreserved v level) (has_unreserved w level) (here.unreserved level on) (back.unreserved level on)

    full-same : (level : Level) → is_level o course level ≡ true → is_full v level ≡ is_full w level
    full-same level on = ap not (place-same level on)

    reserved-same : (level : Level) → is_level o course level ≡ true → is_reserved v level ≡ is_reserved w level
    reserved-same level on = without-space (unreserved_of v level) ∙ ap not (space-same level on) ∙ sym (without-space (unreserved_of w level))

    kept-same : (r : Option Reservation) (level : Level) → is_level o course level ≡ true → is_kept v r level ≡ is_kept w r level
    kept-same r level on = λ i. place-same level on i && not (named_by r level) && reserved-same level on i

    its-course : is_level o course (Course course) ≡ true
    its-course = eq-eqb course.0 course.0 refl

    its-offering : is_level o course (Offering o.id) ≡ true
    its-offering = eq-eqb o.id.0 o.id.0 refl

    -- ---- the course

    course-rules-same : course_rules v student o course ≡ course_rules w student o course
    course-rules-same = λ i.
        (InOffering, then_some (holds-same o.id i) o.id.0)
        ∷ (Credits, then_some (nat_lt (max-same i) (credits-same i + here.credits i)) (credits-same i + here.credits i))
        ∷ []

    pub course-same : (p : Path) → rules_on v student want p (picks_course course) ≡ rules_on w student want p (picks_course course)
    course-same p =
        (λ i. option_map_or (λ o. course_rules v student o course) (there i) [])
        ∙ course-rules-same
        ∙ (λ i. option_map_or (λ o. course_rules w student o course) (sym its i) [])

    -- ---- the reservation

    own : (r : Reservation) → Member w.reservations r → r.offering.0 == o.id.0 ≡ true → active r v.day ≡ active r w.day
    own r m of_it = here.activity r (among (reservations_of w o.id) r (Members.member-of_filter (λ r. r.offering.0 == o.id.0) w.reservations r m of_it))

    offering-rules-same : (r : Option Reservation) → offering_rules v r o course ≡ offering_rules w r o course
    offering-rules-same r = λ i.
        (CourseFull, then_some (not (permits_over r) && full-same (Course course) its-course i) course.0)
        ∷ (OfferingFull, then_some (not (permits_over r) && full-same (Offering o.id) its-offering i) o.id.0)
        ∷ (OfferingReserved, then_some (is_none r && kept-same None (Offering o.id) its-offering i) o.id.0)
        ∷ []

    musts-same : filter (must_use v student course) (reservations_of v o.id) ≡ filter (must_use w student course) (reservations_of w o.id)
    musts-same =
        ap (filter (must_use v student course)) here.reservations
        ∙ Members.filter-same (must_use v student course) (must_use w student course) (reservations_of w o.id)
        (λ r m i. r.must && here.activity r (among (reservations_of w o.id) r m) i && applies-same course r.audience i)

    none-rules-same : none_rules v student o course ≡ none_rules w student o course
    none-rules-same = λ i. (MustUse, least (map (λ r. r.id.0) (musts-same i))) ∷ []

    chosen-rules-same : (id : ReservationId) (r : Reservation) → reservation_of v id ≡ Some r → reservation_of w id ≡ Some r → r.offering.0 == o.id.0 ≡ true
        → chosen_rules v student course r ≡ chosen_rules w student course r
    chosen-rules-same id r found known of_it = λ i.
        (NotApplicable, then_some (not (applies-same course r.audience i)) r.id.0)
        ∷ (Expired, then_some (not (own r (Members.find-member (λ r. r.id.0 == id.0) w.reservations r known).0 of_it i)) r.id.0)
        ∷ (
          UsedUp,
          then_some (used-same (places r.limit) (used_of v r.id) (used_of w r.id)
              (same_test (has_room v r) (has_room w r) (here.room id r found of_it) (back.room id r known of_it)) i) r.id.0,
        )
        ∷ []

    -- a reservation of the offering is found in both worlds
    both-find : (id : ReservationId) → option_map_or (λ x. x.offering.0 == o.id.0) (reservation_of w id) false ≡ true
        → (r : Reservation) × (reservation_of v id ≡ Some r) × (reservation_of w id ≡ Some r) × (r.offering.0 == o.id.0 ≡ true)
    both-find id h =
        let r = known-test (λ x. x.offering.0 == o.id.0) (reservation_of w id) h in
        (r.0, back.found id r.0 r.1 r.2, r.1, r.2)

    pub use-same : (r : Option ReservationId) → is_own w o r ≡ true → option_and_then (reservation_of v) r ≡ option_and_then (reservation_of w) r
    use-same None h = refl
    use-same (Some id) h = let r = both-find id h in r.1 ∙ sym r.2

    reservation-rules-same : (r : Option ReservationId) → is_own w o r ≡ true
        → reservation_rules v student o course (option_and_then (reservation_of v) r) ≡ reservation_rules w student o course (option_and_then (reservation_of w) r)
    reservation-rules-same None h = λ i. none-rules-same i ++ offering-rules-same None i
    reservation-rules-same (Some id) h =
        let r = both-find id h in
        ap (reservation_rules v student o course) r.1
        ∙ (λ i. chosen-rules-same id r.0 r.1 r.2 r.3 i ++ offering-rules-same (Some r.0) i)
        ∙ ap (reservation_rules w student o course) (sym r.2)

    pub reservation-same : (r : Option ReservationId) → is_own w o r ≡ true
        → rules_on v student want (open_path [] (Some course) None None []) (picks_reservation r) ≡ rules_on w student want (open_path [] (Some course) None None []) (picks_reservation r)
    reservation-same r h =
        (λ i. option_map_or (λ o. reservation_rules v student o course (option_and_then (reservation_of v) r)) (there i) [])
        ∙ reservation-rules-same r h
        ∙ (λ i. option_map_or (λ o. reservation_rules w student o course (option_and_then (reservation_of w) r)) (sym its i) [])

    -- ---- the configuration

    pub subparts-same : (config : ConfigId) → subparts_of v course config ≡ subparts_of w course config
    subparts-same config = ap (λ x. option_map_or (λ g. g.subparts) (option_and_then (λ o. config_in o config) x) []) (there ∙ sym its)

    restrictions-same : restrictions_for v student course o.id ≡ restrictions_for w student course o.id
    restrictions-same =
        filter-and (λ r. r.offering.0 == o.id.0) (λ r. applies_to v student course r.audience) v.restrictions
        ∙ (λ i. filter (λ r. applies-same course r.audience i) (here.restrictions i))
        ∙ sym (filter-and (λ r. r.offering.0 == o.id.0) (λ r. applies_to w student course r.audience) w.restrictions)

    config-rules-same : (r : Option Reservation) (config : ConfigId) → has_config o config ≡ true → config_rules v student o course r config ≡ config_rules w student o course r config
    config-rules-same r config on = λ i.
        (ConfigFull, then_some (not (permits_over r) && full-same (Config config) on i) config.0)
        ∷ (ConfigReserved, then_some (not (permits_over r) && kept-same r (Config config) on i) config.0)
        ∷ (NotIncluded, then_some (option_map_or (λ r. not (admits_config r.includes config)) r false) config.0)
        ∷ (Restricted, then_some (is_restricted (subparts-same config i) config [] (restrictions-same i)) config.0)
        ∷ []

    pub config-same : (r : Option ReservationId) → is_own w o r ≡ true → (config : ConfigId) → has_config o config ≡ true
        → rules_on v student want (open_path [] (Some course) (Some r) None []) (picks_config config) ≡ rules_on w student want (open_path [] (Some course) (Some r) None []) (picks_config config)
    config-same r h config on =
        (λ i. option_map_or (λ o. config_rules v student o course (use-same r h i) config) (there i) [])
        ∙ config-rules-same (option_and_then (reservation_of w) r) config on
        ∙ (λ i. option_map_or (λ o. config_rules w student o course (option_and_then (reservation_of w) r) config) (sym its i) [])

    -- ---- a section

    meetings-same : (s : SectionId) → has_section o s ≡ true → meetings_of v s ≡ meetings_of w s
    meetings-same s on = ap (λ x. option_map_or (λ s. s.meetings) x []) (here.sections s on)

    cancelled-same : (s : SectionId) → has_section o s ≡ true → is_cancelled v.catalogue s ≡ is_cancelled w.catalogue s
    cancelled-same s on = same-false (is_cancelled v.catalogue s) (is_cancelled w.catalogue s) (here.cancelled s on) (back.cancelled s on)

    overlaps-held : (r : Option Reservation) (s : SectionId) → has_section o s ≡ true → held_overlaps v student r s ≡ held_overlaps w student r s
    overlaps-held r s on =
        ap (flat_map (of_held v)) f.held
        ∙ flat-same (of_held v) (of_held w) (held_by w student) (λ e m i.
        cond (option_map_or (λ r. r.overlap) r false || (held-same e m).overlap i) []
        (map (λ s. s.0) (Members.filter-same (sections_overlap v s) (sections_overlap w s) e.choice.sections
        (λ t n i. lists_overlap (meetings-same s on i) ((held-same e m).meetings t (among e.choice.sections t n) i)) i)))
      where
        of_held : World → Enrolment → List ℕ
        of_held u e = cond (option_map_or (λ r. r.overlap) r false || permits_overlap u e.choice) [] (map (λ s. s.0) (filter (sections_overlap u s) e.choice.sections))

    overlaps-own : (r : Option Reservation) (ss : List SectionId) (s : SectionId) → ((t : SectionId) → Member ss t → has_section o t ≡ true) → has_section o s ≡ true
        → own_overlaps v r ss s ≡ own_overlaps w r ss s
    overlaps-own r ss s all on = λ i.
        cond (option_map_or (λ r. r.overlap) r false) [] (map (λ s. s.0) (Members.filter-same (λ t. sections_overlap v t s) (λ t. sections_overlap w t s) ss
        (λ t m i. lists_overlap (meetings-same t (all t m) i) (meetings-same s on i)) i))

    section-rules-same : (r : Option Reservation) (config : ConfigId) (ss : List SectionId) (s : SectionId)
        → ((t : SectionId) → Member ss t → has_section o t ≡ true) → has_section o s ≡ true
        → section_rules v student want o course r config ss s ≡ section_rules w student want o course r config ss s
    section-rules-same r config ss s all on = λ i.
        (NotIncluded, then_some (option_map_or (λ r. option_map_or (λ p. not (admits_section r.includes p.id s)) (slice_get (subparts-same config i) (length ss)) false) r false) s.0)
        ∷ (Restricted, then_some (is_restricted (subparts-same config i) config (ss ++ s ∷ []) (restrictions-same i)) s.0)
        ∷ (Cancelled, then_some (cancelled-same s on i) s.0)
        ∷ (Parent, then_some (option_map_or (λ row. not (has_parent ss row)) (here.sections s on i) false) s.0)
        ∷ (SectionFull, then_some (not (permits_over r) && full-same (Section s) on i) s.0)
        ∷ (SectionReserved, then_some (not (permits_over r) && kept-same r (Section s) on i) s.0)
        ∷ (Overlap, least (overlaps-held r s on i ++ overlaps-own r ss s all on i))
        ∷ (FreeTime, least (map (λ f. f.0) (filter (λ f. lists_overlap (meetings-same s on i) (f.1 ∷ [])) (free-same i))))
        ∷ (NotAsked, then_some (not (empty_or_any (λ o. o.0 == s.0) want.only)) s.0)
        ∷ []

    pub section-same : (r : Option ReservationId) → is_own w o r ≡ true → (config : ConfigId) (ss : List SectionId) (s : SectionId)
        → ((t : SectionId) → Member ss t → has_section o t ≡ true) → has_section o s ≡ true
        → rules_on v student want (open_path [] (Some course) (Some r) (Some config) ss) (picks_section s) ≡ rules_on w student want (open_path [] (Some course) (Some r) (Some config) ss) (picks_section s)
    section-same r h config ss s all on =
        (λ i. option_map_or (λ o. section_rules v student want o course (use-same r h i) config ss s) (there i) [])
        ∙ section-rules-same (option_and_then (reservation_of w) r) config ss s all on
        ∙ (λ i. option_map_or (λ o. section_rules w student want o course (option_and_then (reservation_of w) r) config ss s) (sym its i) [])

    pub reservations-same : reservations_of v o.id ≡ reservations_of w o.id
    reservations-same = here.reservations
