-- A choice that is allowed has a text: its course is the want's, its other ids are the world's, and it has one to six sections.
use Rattle.std.specs.Prelude.{◌≡◌, ℕ, suc, ◌<◌, ◌≤◌, Bool, true, false, not, ◌&&◌, ◌==◌, nat_le, List, [], ◌∷◌, length, Option, Some, None, refl}
use Rattle.std.specs.List.{list_any, list_all}
use Rattle.std.specs.Option.{option_map_or, option_and_then}
use Rattle.std.proofs.Common.{ap, arith}
use Rattle.sect_catalog.specs.Catalogue.{has_course, is_cancelled}
use Rattle.sect_model.specs.Data.{StudentId, CourseId, ConfigId, SectionId, ReservationId, OfferingRow, ConfigRow, SubpartRow, Want, Choice, Move}
use Rattle.sect_model.specs.World.{World, offering_of, reservation_of, enrol, leave, leave_all}
use Rattle.sect_model.specs.Choice.{config_of, config_in, one_of_each, parents_listed, is_well_formed}
use Rattle.sect_model.specs.Allowed.{is_allowed, is_allowed_in, fits_want, fits_student, fits_reservation, fits_space, fits_includes, fits_schedule, fits_free_times, fits_only, may_use, must_use, reservations_of}
use Rattle.sect_model.specs.Move.{are_allowed, is_allowed_move}
use Rattle.sect_model.specs.Settle.{make_move}
use Rattle.sect_model.proofs.Members.{Member, all-at, any-at, both-left, both-right, not_both, find-member, known-test}
use Rattle.sect_model.proofs.ListLemmas.{at_most}
use Rattle.sect_model.proofs.Tests.{rows_in_size}
use Rattle.sect_wire.specs.Fits.{FitsList, FitsOptional, FitsCourse, FitsConfig, FitsSection, FitsReservation, FitsSections, FitsChoice, FitsOfferingRow, FitsConfigRow, FitsSubpartRow, FitsSectionRow}
use Rattle.sect_rows.specs.States.{FitsWorld, FitsReserved}
use Rattle.sect_rows.proofs.Each.{each-at, each-more, same-size}
use Rattle.sect_rows.proofs.Worlds.{HasSections, enrol-fits, leave_all-fits, enrol_all-fits}

-- the courses of a want have texts
abbrev pub WantsCourses : Want → Type 0
WantsCourses want = FitsList FitsCourse want.courses

-- a configuration of a course's offering is one of a row's
pub config-member : (w : World) (course : CourseId) (config : ConfigId) (g : ConfigRow) → config_of w course config ≡ Some g → (o : OfferingRow) × Member w.catalogue.rows o × Member o.configs g × (g.id.0 == config.0 ≡ true)
config-member w course config g h = by_found (offering_of w course) refl h
  where
    by_found : (x : Option OfferingRow) → offering_of w course ≡ x → option_and_then (λ o. config_in o config) x ≡ Some g → (o : OfferingRow) × Member w.catalogue.rows o × Member o.configs g × (g.id.0 == config.0 ≡ true)
    by_found None e h = cc
    by_found (Some o) e h =
        let m = find-member (λ o. has_course o course) w.catalogue.rows o e in
        let n = find-member (λ g. g.id.0 == config.0) o.configs g h in
        (o, m.0, n.0, n.1)

pub config-row : (w : World) → FitsWorld w → (course : CourseId) (config : ConfigId) (g : ConfigRow) → config_of w course config ≡ Some g → FitsConfigRow g
config-row w f course config g h =
    let m = config-member w course config g h in
    each-at FitsConfigRow m.0.configs (each-at FitsOfferingRow w.catalogue.rows f.offerings m.0 m.1).2 g m.2

one-fits : (ps : List SubpartRow) (ss : List SectionId) → FitsList FitsSubpartRow ps → one_of_each ps ss ≡ true → FitsList FitsSection ss × (length ss ≡ length ps)
one-fits [] [] f h = (tt, refl)
one-fits [] (s ∷ ss) f h = absurd (not_both false h refl)
one-fits (p ∷ ps) [] f h = absurd (not_both false h refl)
one-fits (p ∷ ps) (s ∷ ss) f h =
    let a = any-at (λ r. r.id.0 == s.0) p.sections (both-left (list_any (λ r. r.id.0 == s.0) p.sections) (one_of_each ps ss) h) in
    let rest = one-fits ps ss f.1 (both-right (list_any (λ r. r.id.0 == s.0) p.sections) (one_of_each ps ss) h) in
    ((same-size a.0.id.0 s.0 a.2 (each-at FitsSectionRow p.sections f.0.1 a.0 a.1).0, rest.0), ap suc rest.1)

sized : (m n : ℕ) → m ≡ n → nat_le 1 n && nat_le n 6 ≡ true → (0 < m) × (m ≤ 6)
sized m n e h =
    let some = at_most 1 n (both-left (nat_le 1 n) (nat_le n 6) h) in
    let few = at_most n 6 (both-right (nat_le 1 n) (nat_le n 6) h) in
    (omega (arith, e, some), omega (arith, e, few))

first-and-third : (a b c d e f g h : Bool) → a && b && c && d && e && f && g && h ≡ true → (a ≡ true) × (c ≡ true)
first-and-third a b c d e f g h all =
    let three = both-left (a && b && c) d (both-left (a && b && c && d) e (both-left (a && b && c && d && e) f (both-left (a && b && c && d && e && f) g (both-left (a && b && c && d && e && f && g) h all)))) in
    (both-left a b (both-left (a && b) c three), both-right (a && b) c three)

module _ (w : World) (f : FitsWorld w) where
  sections-fit : rows_in_size w.catalogue.rows ≡ true → (choice : Choice) → is_well_formed w choice ≡ true → FitsConfig choice.config × FitsSections choice.sections
  sections-fit size choice h =
      let g = known-test (λ g. one_of_each g.subparts choice.sections) (config_of w choice.course choice.config) (both-left _ (parents_listed w choice.sections) h) in
      let m = config-member w choice.course choice.config g.0 g.1 in
      let row = config-row w f choice.course choice.config g.0 g.1 in
      let one = one-fits g.0.subparts choice.sections row.2 g.2 in
      let few =
      sized (length choice.sections) (length g.0.subparts) one.1
      (all-at (λ g. nat_le 1 (length g.subparts) && nat_le (length g.subparts) 6) m.0.configs
      (all-at (λ o. list_all (λ g. nat_le 1 (length g.subparts) && nat_le (length g.subparts) 6) o.configs) w.catalogue.rows size m.0 m.1) g.0 m.2) in
      (same-size g.0.id.0 choice.config.0 m.3 row.0, (few.0, few.1, one.0))

  reservation-known : (student : StudentId) (o : OfferingRow) (choice : Choice) → fits_reservation w student o choice ≡ true → FitsOptional FitsReservation choice.reservation
  reservation-known student o choice h = by_named choice.reservation h
    where
      by_named : (r : Option ReservationId)
          → option_map_or (λ id. option_map_or (may_use w student o.id choice.course) (reservation_of w id) false) r (not (list_any (must_use w student choice.course) (reservations_of w o.id))) ≡ true
          → FitsOptional FitsReservation r
      by_named None h = tt
      by_named (Some id) h =
          let k = known-test (may_use w student o.id choice.course) (reservation_of w id) h in
          let m = find-member (λ r. r.id.0 == id.0) w.reservations k.0 k.1 in
          same-size k.0.id.0 id.0 m.1 (each-at FitsReserved w.reservations f.reservations k.0 m.0)

  allowed-parts : rows_in_size w.catalogue.rows ≡ true → (student : StudentId) (want : Want) (choice : Choice) (o : OfferingRow) → WantsCourses want → is_allowed_in w student want choice o ≡ true → FitsChoice choice
  allowed-parts size student want choice o wants h =
      let three =
      first-and-third (fits_want w want choice) (fits_student w student o choice) (fits_reservation w student o choice) (fits_space w o choice) (fits_includes w student o choice) (fits_schedule w student choice)
      (fits_free_times w student want choice) (fits_only want choice) h in
      let listed : Bool = list_any (λ c. c.0 == choice.course.0) want.courses in
      let two = both-left (listed && is_well_formed w choice) (list_all (λ s. not (is_cancelled w.catalogue s)) choice.sections) three.0 in
      let a = any-at (λ c. c.0 == choice.course.0) want.courses (both-left listed (is_well_formed w choice) two) in
      let parts = sections-fit size choice (both-right listed (is_well_formed w choice) two) in (
        same-size a.0.0 choice.course.0 a.2 (each-at FitsCourse want.courses wants a.0 a.1),
        reservation-known student o choice three.1,
        parts.0,
        parts.1,
      )

  pub choice-fits : rows_in_size w.catalogue.rows ≡ true → (student : StudentId) (want : Want) (choice : Choice) → WantsCourses want → is_allowed w student want choice ≡ true → FitsChoice choice
  unfolding is_allowed
  choice-fits size student want choice wants h =
      let k = known-test (is_allowed_in w student want choice) (offering_of w choice.course) h in
      allowed-parts size student want choice k.0 wants k.2

pub has-sections : (c : Choice) → FitsChoice c → HasSections c
has-sections c h = h.3.2

pub allowed-fit : (wants : List Want) (cs : List Choice) (w : World) (student : StudentId) → FitsWorld w → rows_in_size w.catalogue.rows ≡ true → FitsList WantsCourses wants
    → are_allowed w student wants cs ≡ true → FitsList FitsChoice cs
allowed-fit [] [] w student f size k h = tt
allowed-fit [] (c ∷ cs) w student f size k h = absurd (not_both false h refl)
allowed-fit (want ∷ wants) [] w student f size k h = absurd (not_both false h refl)
allowed-fit (want ∷ wants) (c ∷ cs) w student f size k h =
    let one = choice-fits w f size student want c k.0 (both-left (is_allowed w student want c) (are_allowed (enrol w student c) student wants cs) h) in
    (one, allowed-fit wants cs (enrol w student c) student (enrol-fits w f student c (has-sections c one)) size k.1 (both-right (is_allowed w student want c) (are_allowed (enrol w student c) student wants cs) h))

left-size : (courses : List CourseId) (w : World) (student : StudentId) → rows_in_size w.catalogue.rows ≡ true → rows_in_size (leave_all w student courses).catalogue.rows ≡ true
left-size [] w student h = h
left-size (c ∷ cs) w student h = left-size cs (leave w student c) student h

-- the choices of an allowed move, and the world after it
pub move-fits : (w : World) (mv : Move) (choices : List Choice) → FitsWorld w → rows_in_size w.catalogue.rows ≡ true → FitsList WantsCourses mv.take → is_allowed_move w mv choices ≡ true
    → FitsList FitsChoice choices × FitsWorld (make_move w mv choices)
move-fits w mv choices f size wants h =
    let left = leave_all-fits mv.give w mv.student f in
    let fit = allowed-fit mv.take choices (leave_all w mv.student mv.give) mv.student left (left-size mv.give w mv.student size) wants h in
    (fit, enrol_all-fits choices (leave_all w mv.student mv.give) mv.student (each-more FitsChoice HasSections choices has-sections fit) left)
