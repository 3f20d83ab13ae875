-- The numbers of a tree that refutes a move are those of ids of the world and the move, places of requests, and credits.
use Rattle.std.specs.Prelude.{◌≡◌, ℕ, zero, suc, ◌+◌, ◌<◌, ◌≤◌, Bool, true, false, not, ◌||◌, ◌==◌, nat_lt, nat_le, cond, List, [], ◌∷◌, ◌++◌, length, map, filter, filter_map, slice_get, Option, Some, None, refl}
use Rattle.std.specs.List.{enumerate_from}
use Rattle.std.specs.Option.{option_map_or, option_and_then, is_some}
use Rattle.std.proofs.Common.{subst, arith}
use Rattle.std.proofs.lemmas.Bool.Decides.{nat_tests}
use Rattle.sect_base.specs.Tree.{Tree, trees_of}
use Rattle.sect_people.specs.Order.{insert_by, sorted_by}
use Rattle.sect_people.specs.Student.{find_student}
use Rattle.sect_people.specs.declared.row.Ask.{Ask}
use Rattle.sect_people.specs.declared.row.Ask.TheVariants.{Course as asks_course, Free}
use Rattle.sect_catalog.specs.Catalogue.{has_course}
use Rattle.sect_model.specs.Data.{StudentId, CourseId, ConfigId, SectionId, ReservationId, OfferingRow, ConfigRow, SubpartRow, Reservation, Student, Choice, Want, Move, Rule}
use Rattle.sect_model.specs.declared.held.Enrolment.{Enrolment}
use Rattle.sect_model.specs.declared.pick.Pick.{Pick}
use Rattle.sect_model.specs.declared.pick.Pick.TheVariants.{Course as picks_course, Reservation as picks_reservation, Config as picks_config, Section as picks_section}
use Rattle.sect_model.specs.declared.pick.Outcome.TheVariants.{Blocked, Spent}
use Rattle.sect_model.specs.World.{World, offering_of, reservation_of, credits_of, held_by, leave_all}
use Rattle.sect_model.specs.Choice.{config_of, subparts_of}
use Rattle.sect_model.specs.Overlap.{sections_overlap}
use Rattle.sect_model.specs.Allowed.{credits_held, reservations_of, must_use, free_before, free_times, meets_at, permits_overlap}
use Rattle.sect_model.specs.Path.{Path, start, options_for, options_at, want_at, reservation_options, config_options, section_options, next_subpart, extend, close, sections_due}
use Rattle.sect_model.specs.Rules.{least, first_broken, course_rules, chosen_rules, none_rules, offering_rules, reservation_rules, config_rules, held_overlaps, own_overlaps, section_rules, joined, rules_on, world_at, leaf_of}
use Rattle.sect_model.specs.Visits.{visits_of, most_decisions}
use Rattle.sect_model.specs.Outcome.{leaf_or, refutation_from, refutation_of, answer_of, first_allowed, outcome_of}
use Rattle.sect_model.specs.Premises.{WorldKeeps}
use Rattle.sect_model.specs.Stands.{MoveStands}
use Rattle.sect_model.proofs.RefutedLemmas.{blocked-refutes}
use Rattle.sect_search.specs.Texts.{HasNumbers, HaveNumbers}
use Rattle.sect_search.proofs.TextLemmas.{cover-in}
use Rattle.sect_wire.specs.Fits.{Fits32, FitsList, FitsOptional, FitsCourse, FitsConfig, FitsSection, FitsTree, FitsOfferingRow, FitsConfigRow, FitsSubpartRow, FitsSectionRow}
use Rattle.sect_rows.specs.States.{FitsWorld, FitsReserved, FitsEnrolment}
use Rattle.sect_rows.proofs.Each.{each-append, each-one, each-filter, each-map, each-flat_map, each-found, fits-found, fits-then}
use Rattle.sect_rows.proofs.Worlds.{HasSections, leave_all-fits, enrol_all-fits, course-credits, left-credits, enrolled-credits}
use Rattle.sect_rows.proofs.Choices.{WantsCourses, config-row}

-- the courses of a want have texts, and its rank is a number of 8 bits
abbrev pub TakesWant : Want → Type 0
TakesWant want = WantsCourses want × (want.rank ≤ 255)

-- the choices made and the decisions for the next have texts
record FitsPath (p : Path) : Type 0 where
  done : FitsList HasSections p.done
  course : FitsOptional FitsCourse p.course
  sections : FitsList FitsSection p.sections

-- the course, the configuration or the section of a decision has a text
abbrev FitsPick : Pick → Type 0
FitsPick (picks_course c) = FitsCourse c
FitsPick (picks_reservation r) = Unit {0}
FitsPick (picks_config g) = FitsConfig g
FitsPick (picks_section s) = FitsSection s

-- ---- lists

each-sorted : {X : Type 0} (P : X → Type 0) (key : X → ℕ) (xs : List X) → FitsList P xs → FitsList P (sorted_by key xs)
each-sorted {X = X} P key xs h = at xs h
  where
    insert : (x : X) (ys : List X) → P x → FitsList P ys → FitsList P (insert_by key x ys)
    insert x [] one h = (one, tt)
    insert x (y ∷ ys) one h = by_test (nat_le (key x) (key y)) (insert x ys one h.1)
      where
        by_test : (b : Bool) → FitsList P (insert_by key x ys) → FitsList P (cond b (x ∷ y ∷ ys) (y ∷ insert_by key x ys))
        by_test true ih = (one, h)
        by_test false ih = (h.0, ih)

    at : (xs : List X) → FitsList P xs → FitsList P (sorted_by key xs)
    at [] h = tt
    at (x ∷ xs) h = insert x (sorted_by key xs) h.0 (at xs h.1)

each-got : {X : Type 0} (P : X → Type 0) (xs : List X) (n : ℕ) → FitsList P xs → FitsOptional P (slice_get xs n)
each-got P [] n h = tt
each-got P (x ∷ xs) zero h = h.0
each-got P (x ∷ xs) (suc n) h = each-got P xs n h.1

got-below : {X : Type 0} (xs : List X) (n : ℕ) (x : X) → slice_get xs n ≡ Some x → n < length xs
got-below [] n x h = cc
got-below (y ∷ ys) zero x h = omega arith
got-below (y ∷ ys) (suc n) x h = omega (arith, got-below ys n x h)

-- the least of numbers that are at most `most`
pub least-most : (most : ℕ) (ns : List ℕ) → FitsList (λ n. n ≤ most) ns → FitsOptional (λ n. n ≤ most) (least ns)
least-most most [] h = tt
least-most most (n ∷ ns) h = by_rest (least ns) (least-most most ns h.1)
  where
    by_test : (b : Bool) (m : ℕ) → m ≤ most → cond b n m ≤ most
    by_test true m k = h.0
    by_test false m k = k

    by_rest : (o : Option ℕ) → FitsOptional (λ n. n ≤ most) o → option_map_or (λ m. cond (nat_le n m) n m) o n ≤ most
    by_rest None k = h.0
    by_rest (Some m) k = by_test (nat_le n m) m k

-- ---- rules

abbrev FitsRule : Rule × Option ℕ → Type 0
FitsRule row = FitsOptional Fits32 row.1

abbrev FitsLeaf : Rule × ℕ → Type 0
FitsLeaf leaf = Fits32 leaf.1

first-fits : (rows : List (Rule × Option ℕ)) → FitsList FitsRule rows → FitsOptional FitsLeaf (first_broken rows)
first-fits [] h = tt
first-fits ((rule, None) ∷ rows) h = first-fits rows h.1
first-fits ((rule, Some n) ∷ rows) h = h.0

before-rank : (rank : ℕ) (asks : List (ℕ × Ask)) → rank ≤ 255 → FitsList (λ f. Fits32 f.0) (filter_map (free_before rank) asks)
before-rank rank [] few = tt
before-rank rank ((n, asks_course ask) ∷ asks) few = before-rank rank asks few
before-rank rank ((n, Free pattern) ∷ asks) few = by_test (nat_lt n rank) refl (before-rank rank asks few)
  where
    below : (n : ℕ) → nat_lt n rank ≡ true → n ≤ 4294967295
    below n h = let k : n < rank = grind (arith, nat_tests, h) in omega (arith, k, few)

    by_test : (b : Bool) → nat_lt n rank ≡ b → FitsList (λ f. Fits32 f.0) (filter_map (free_before rank) asks) → FitsList (λ f. Fits32 f.0) (Rattle.std.specs.List.cons_option (cond b (Some (n, pattern)) None) (filter_map (free_before rank) asks))
    by_test true e ih = (below n e, ih)
    by_test false e ih = ih

module _ (v : World) (f : FitsWorld v) (student : StudentId) (credits : credits_held v student ≤ 4294967000) where
  offering-known : (course : CourseId) (o : OfferingRow) → offering_of v course ≡ Some o → FitsOfferingRow o
  offering-known course o e = each-found FitsOfferingRow (λ o. has_course o course) v.catalogue.rows o f.offerings e

  named : (r : Option ReservationId) → FitsOptional FitsReserved (option_and_then (reservation_of v) r)
  named None = tt
  named (Some id) = fits-found FitsReserved (λ r. r.id.0 == id.0) v.reservations f.reservations

  course-rows : (o : OfferingRow) (course : CourseId) → FitsOfferingRow o → FitsList FitsRule (course_rules v student o course)
  course-rows o course h = (fits-then Fits32 _ o.id.0 h.0, (fits-then Fits32 _ (credits_held v student + credits_of v course) (omega (arith, credits, course-credits v f course)), tt))

  offering-rows : (r : Option Reservation) (o : OfferingRow) (course : CourseId) → FitsOfferingRow o → FitsCourse course → FitsList FitsRule (offering_rules v r o course)
  offering-rows r o course h k = (fits-then Fits32 _ course.0 k, (fits-then Fits32 _ o.id.0 h.0, (fits-then Fits32 _ o.id.0 h.0, tt)))

  reservation-rows : (o : OfferingRow) (course : CourseId) (r : Option Reservation) → FitsOfferingRow o → FitsCourse course → FitsOptional FitsReserved r → FitsList FitsRule (reservation_rules v student o course r)
  reservation-rows o course None h k n =
      each-append FitsRule (none_rules v student o course) (offering_rules v None o course) (
        least-most 4294967295 (map (λ r. r.id.0) (filter (must_use v student course) (reservations_of v o.id)))
            (each-map FitsReserved (λ n. n ≤ 4294967295) (λ r. r.id.0) (filter (must_use v student course) (reservations_of v o.id)) (λ r h. h)
            (each-filter FitsReserved (must_use v student course) (reservations_of v o.id) (each-filter FitsReserved (λ r. r.offering.0 == o.id.0) v.reservations f.reservations))),
        tt,
      )
      (offering-rows None o course h k)
  reservation-rows o course (Some r) h k n =
      each-append FitsRule (chosen_rules v student course r) (offering_rules v (Some r) o course)
      (fits-then Fits32 _ r.id.0 n, (fits-then Fits32 _ r.id.0 n, (fits-then Fits32 _ r.id.0 n, tt)))
      (offering-rows (Some r) o course h k)

  held-numbers : (r : Option Reservation) (section : SectionId) → FitsList Fits32 (held_overlaps v student r section)
  held-numbers r section =
      each-flat_map FitsEnrolment Fits32 _ (held_by v student) (λ e h. by_test e (option_map_or (λ r. r.overlap) r false || permits_overlap v e.choice) h)
      (each-filter FitsEnrolment (λ e. e.student.0 == student.0) v.roster f.roster)
    where
      by_test : (e : Enrolment) (b : Bool) → FitsEnrolment e → FitsList Fits32 (cond b [] (map (λ s. s.0) (filter (sections_overlap v section) e.choice.sections)))
      by_test e true h = tt
      by_test e false h = each-map FitsSection Fits32 (λ s. s.0) (filter (sections_overlap v section) e.choice.sections) (λ s h. h) (each-filter FitsSection (sections_overlap v section) e.choice.sections h)

  own-numbers : (r : Option Reservation) (sections : List SectionId) (section : SectionId) → FitsList FitsSection sections → FitsList Fits32 (own_overlaps v r sections section)
  own-numbers r sections section h = by_test (option_map_or (λ r. r.overlap) r false)
    where
      by_test : (b : Bool) → FitsList Fits32 (cond b [] (map (λ s. s.0) (filter (λ s. sections_overlap v s section) sections)))
      by_test true = tt
      by_test false = each-map FitsSection Fits32 (λ s. s.0) (filter (λ s. sections_overlap v s section) sections) (λ s h. h) (each-filter FitsSection (λ s. sections_overlap v s section) sections h)

  free-numbers : (rank : ℕ) → rank ≤ 255 → FitsList (λ f. Fits32 f.0) (free_times v student rank)
  free-numbers rank few = by_found (find_student v.students student)
    where
      by_found : (o : Option Student) → FitsList (λ f. Fits32 f.0) (option_map_or (λ s. filter_map (free_before rank) (enumerate_from 1 s.asks)) o [])
      by_found None = tt
      by_found (Some s) = before-rank rank (enumerate_from 1 s.asks) few

  section-rows : (want : Want) (o : OfferingRow) (course : CourseId) (r : Option Reservation) (config : ConfigId) (sections : List SectionId) (section : SectionId)
      → want.rank ≤ 255 → FitsList FitsSection sections → FitsSection section → FitsList FitsRule (section_rules v student want o course r config sections section)
  section-rows want o course r config sections section few h k = (
    fits-then Fits32 _ section.0 k,
    (
      fits-then Fits32 _ section.0 k,
      (
        fits-then Fits32 _ section.0 k,
        (
          fits-then Fits32 _ section.0 k,
          (
            fits-then Fits32 _ section.0 k,
            (
              fits-then Fits32 _ section.0 k,
              (
                least-most 4294967295 (held_overlaps v student r section ++ own_overlaps v r sections section)
                    (each-append Fits32 (held_overlaps v student r section) (own_overlaps v r sections section) (held-numbers r section) (own-numbers r sections section h)),
                (
                  least-most 4294967295 (map (λ f. f.0) (filter (λ f. meets_at v section f.1) (free_times v student want.rank)))
                      (each-map (λ f. Fits32 f.0) Fits32 (λ f. f.0) (filter (λ f. meets_at v section f.1) (free_times v student want.rank)) (λ f h. h)
                      (each-filter (λ f. Fits32 f.0) (λ f. meets_at v section f.1) (free_times v student want.rank) (free-numbers want.rank few))),
                  (fits-then Fits32 _ section.0 k, tt),
                ),
              ),
            ),
          ),
        ),
      ),
    ),
  )

  -- the rules beside each decision
  rows-fit : (want : Want) (p : Path) (pick : Pick) → want.rank ≤ 255 → FitsPath p → FitsPick pick → FitsList FitsRule (rules_on v student want p pick)
  rows-fit want p (picks_course course) few h k = by_found (offering_of v course) refl
    where
      by_found : (x : Option OfferingRow) → offering_of v course ≡ x → FitsList FitsRule (option_map_or (λ o. course_rules v student o course) x [])
      by_found None e = tt
      by_found (Some o) e = course-rows o course (offering-known course o e)
  rows-fit want p (picks_reservation r) few h k = by_course p.course h.course
    where
      by_found : (course : CourseId) → FitsCourse course → (x : Option OfferingRow) → offering_of v course ≡ x → FitsList FitsRule (option_map_or (λ o. reservation_rules v student o course (option_and_then (reservation_of v) r)) x [])
      by_found course c None e = tt
      by_found course c (Some o) e = reservation-rows o course (option_and_then (reservation_of v) r) (offering-known course o e) c (named r)

      by_course : (c : Option CourseId) → FitsOptional FitsCourse c
          → FitsList FitsRule (option_map_or (λ course. option_map_or (λ o. reservation_rules v student o course (option_and_then (reservation_of v) r)) (offering_of v course) []) c [])
      by_course None c = tt
      by_course (Some course) c = by_found course c (offering_of v course) refl
  rows-fit want p (picks_config config) few h k = by_course p.course
    where
      by_found : (course : CourseId) (x : Option OfferingRow) → FitsList FitsRule (option_map_or (λ o. config_rules v student o course (option_and_then (reservation_of v) (joined p.reservation)) config) x [])
      by_found course None = tt
      by_found course (Some o) = (fits-then Fits32 _ config.0 k, (fits-then Fits32 _ config.0 k, (fits-then Fits32 _ config.0 k, (fits-then Fits32 _ config.0 k, tt))))

      by_course : (c : Option CourseId) → FitsList FitsRule (option_map_or (λ course. option_map_or (λ o. config_rules v student o course (option_and_then (reservation_of v) (joined p.reservation)) config) (offering_of v course) []) c [])
      by_course None = tt
      by_course (Some course) = by_found course (offering_of v course)
  rows-fit want p (picks_section section) few h k = by_course p.course
    where
      by_found : (course : CourseId) (config : ConfigId) (x : Option OfferingRow)
          → FitsList FitsRule (option_map_or (λ o. section_rules v student want o course (option_and_then (reservation_of v) (joined p.reservation)) config p.sections section) x [])
      by_found course config None = tt
      by_found course config (Some o) = section-rows want o course (option_and_then (reservation_of v) (joined p.reservation)) config p.sections section few h.sections k

      by_config : (course : CourseId) (g : Option ConfigId)
          → FitsList FitsRule (option_map_or (λ config. option_map_or (λ o. section_rules v student want o course (option_and_then (reservation_of v) (joined p.reservation)) config p.sections section) (offering_of v course) []) g [])
      by_config course None = tt
      by_config course (Some config) = by_found course config (offering_of v course)

      by_course : (c : Option CourseId)
          → FitsList FitsRule (option_map_or (λ course. option_map_or (λ config. option_map_or (λ o. section_rules v student want o course (option_and_then (reservation_of v) (joined p.reservation)) config p.sections section) (offering_of v course) []) p.config []) c [])
      by_course None = tt
      by_course (Some course) = by_config course p.config

-- ---- paths

closed : (p : Path) (c : Option CourseId) (r : Option (Option ReservationId)) (g : Option ConfigId) → FitsPath p → FitsPath (close p c r g)
closed p None r g h = h
closed p (Some c) None g h = h
closed p (Some c) (Some r) None h = h
closed p (Some c) (Some r) (Some g) h = record { done = each-one HasSections p.done (record { course = c; reservation = r; config = g; sections = p.sections }) h.done h.sections; course = tt; sections = tt }

module _ (w : World) (mv : Move) (f : FitsWorld w) (credits : credits_held w mv.student ≤ 65535) (few : length mv.take ≤ 4) (wants : FitsList TakesWant mv.take) where
  extended : (p : Path) (pick : Pick) → FitsPath p → FitsPick pick → FitsPath (extend w p pick)
  extended p (picks_course c) h k = record { done = h.done; course = k; sections = h.sections }
  extended p (picks_reservation r) h k = record { done = h.done; course = h.course; sections = h.sections }
  extended p (picks_config g) h k = record { done = h.done; course = h.course; sections = h.sections }
  extended p (picks_section s) h k = by_whole (nat_le (sections_due w p.course p.config) (length (p.sections ++ s ∷ [])))
    where
      more : Path
      more = record p { sections = p.sections ++ s ∷ [] }

      fits : FitsPath more
      fits = record { done = h.done; course = h.course; sections = each-one FitsSection p.sections s h.sections k }

      by_whole : (b : Bool) → FitsPath (cond b (close more p.course p.reservation p.config) more)
      by_whole true = closed more p.course p.reservation p.config fits
      by_whole false = fits

  reservation-picks : (rs : List Reservation) → FitsList FitsPick (reservation_options rs)
  reservation-picks rs =
      each-append FitsPick (each_of true ++ each_of false) (picks_reservation None ∷ []) (each-append FitsPick (each_of true) (each_of false) (each-picks true) (each-picks false)) (tt, tt)
    where
      must : Bool → Reservation → Bool
      must true r = r.must
      must false r = not r.must

      each_of : Bool → List Pick
      each_of b = map (λ r. picks_reservation (Some r.id)) (sorted_by (λ r. r.id.0) (filter (must b) rs))

      all : (xs : List Reservation) → FitsList FitsPick (map (λ r. picks_reservation (Some r.id)) xs)
      all [] = tt
      all (x ∷ xs) = (tt, all xs)

      each-picks : (b : Bool) → FitsList FitsPick (each_of b)
      each-picks b = all (sorted_by (λ r. r.id.0) (filter (must b) rs))

  config-picks : (x : Option OfferingRow) → FitsOptional FitsOfferingRow x → FitsList FitsPick (config_options x)
  config-picks None h = tt
  config-picks (Some o) h = each-map FitsConfigRow FitsPick (λ g. picks_config g.id) (sorted_by (λ g. g.id.0) o.configs) (λ g h. h.0) (each-sorted FitsConfigRow (λ g. g.id.0) o.configs h.2)

  section-picks : (x : Option SubpartRow) → FitsOptional FitsSubpartRow x → FitsList FitsPick (section_options x)
  section-picks None h = tt
  section-picks (Some p) h = each-map FitsSectionRow FitsPick (λ s. picks_section s.id) (sorted_by (λ s. s.id.0) p.sections) (λ s h. h.0) (each-sorted FitsSectionRow (λ s. s.id.0) p.sections h.1)

  subparts-fit : (c : CourseId) (g : ConfigId) → FitsList FitsSubpartRow (subparts_of w c g)
  subparts-fit c g = by_found (config_of w c g) refl
    where
      by_found : (x : Option ConfigRow) → config_of w c g ≡ x → FitsList FitsSubpartRow (option_map_or (λ g. g.subparts) x [])
      by_found None e = tt
      by_found (Some cfg) e = (config-row w f c g cfg e).2

  picks-fit : (want : Want) (c : Option CourseId) (r : Option (Option ReservationId)) (g : Option ConfigId) (ss : List SectionId) → WantsCourses want → FitsList FitsPick (options_for w want c r g ss)
  picks-fit want None r g ss h = each-map FitsCourse FitsPick picks_course want.courses (λ c h. h) h
  picks-fit want (Some c) None g ss h = reservation-picks (option_map_or (λ o. reservations_of w o.id) (offering_of w c) [])
  picks-fit want (Some c) (Some r) None ss h = config-picks (offering_of w c) (fits-found FitsOfferingRow (λ o. has_course o c) w.catalogue.rows f.offerings)
  picks-fit want (Some c) (Some r) (Some g) ss h = section-picks (next_subpart w c g ss) (each-got FitsSubpartRow (subparts_of w c g) (length ss) (subparts-fit c g))

  options-fit : (p : Path) → FitsList FitsPick (options_at w mv p)
  options-fit p = by_want (want_at mv p) (each-got TakesWant mv.take (length p.done) wants)
    where
      by_want : (x : Option Want) → FitsOptional TakesWant x → FitsList FitsPick (option_map_or (λ want. options_for w want p.course p.reservation p.config p.sections) x [])
      by_want None h = tt
      by_want (Some want) h = picks-fit want p.course p.reservation p.config p.sections h.0

  world-fits : (p : Path) → FitsPath p → FitsWorld (world_at w mv p)
  world-fits p h = enrol_all-fits p.done (leave_all w mv.student mv.give) mv.student h.done (leave_all-fits mv.give w mv.student f)

  credits-few : (p : Path) → FitsPath p → length p.done ≤ 4 → credits_held (world_at w mv p) mv.student ≤ 4294967000
  credits-few p h n =
      omega (arith, n, credits, left-credits mv.give w mv.student, enrolled-credits p.done (leave_all w mv.student mv.give) mv.student (leave_all-fits mv.give w mv.student f) h.done)

  leaf-fits : (p : Path) (pick : Pick) → FitsPath p → FitsPick pick → FitsOptional FitsLeaf (leaf_of w mv p pick)
  unfolding leaf_of
  leaf-fits p pick h k = by_want (want_at mv p) refl (each-got TakesWant mv.take (length p.done) wants)
    where
      by_want : (x : Option Want) → want_at mv p ≡ x → FitsOptional TakesWant x → FitsOptional FitsLeaf (option_map_or (λ want. first_broken (rules_on (world_at w mv p) mv.student want p pick)) x None)
      by_want None e t = tt
      by_want (Some want) e t =
          first-fits (rules_on (world_at w mv p) mv.student want p pick)
          (rows-fit (world_at w mv p) (world-fits p h) mv.student (credits-few p h (omega (arith, few, got-below mv.take (length p.done) want e))) want p pick t.1 h k)

  leaf-number : (n : ℕ) (next : Path) (o : Option (Rule × ℕ)) → FitsOptional FitsLeaf o → HasNumbers (refutation_from w mv n next) → HasNumbers (leaf_or (refutation_from w mv n) next o)
  leaf-number n next None l below = below
  leaf-number n next (Some leaf) l below = omega (arith, l)

  each-number : (n : ℕ) (p : Path) → FitsPath p → ((q : Path) → FitsPath q → HasNumbers (refutation_from w mv n q)) → (picks : List Pick) → FitsList FitsPick picks
      → HaveNumbers (trees_of (map (λ pick. leaf_or (refutation_from w mv n) (extend w p pick) (leaf_of w mv p pick)) picks))
  each-number n p h below [] k = tt
  each-number n p h below (pick ∷ picks) k = (leaf-number n (extend w p pick) (leaf_of w mv p pick) (leaf-fits p pick h k.0) (below (extend w p pick) (extended p pick h k.0)), each-number n p h below picks k.1)

  numbers-from : (n : ℕ) (p : Path) → FitsPath p → HasNumbers (refutation_from w mv n p)
  numbers-from zero p h = tt
  numbers-from (suc n) p h = each-number n p h (λ q k. numbers-from n q k) (options_at w mv p) (options-fit p)

  tree-numbers : HasNumbers (refutation_of w mv)
  tree-numbers = numbers-from (most_decisions mv) start (record { done = tt; course = tt; sections = tt })

  -- the tree and the visits of a blocked search
  pub blocked-fits : (budget visits : ℕ) (tree : Tree) → budget ≤ 20000 → WorldKeeps w → MoveStands w mv → outcome_of w mv budget ≡ Blocked tree visits → Fits32 visits × FitsTree tree
  unfolding outcome_of
  blocked-fits budget visits tree small keeps standing e = (omega (arith, small, told.0), cover-in w mv 36 tree (omega (arith, few)) keeps standing (blocked-refutes w mv budget visits tree keeps standing e).0 told.1)
    where
      within : (n : ℕ) → nat_lt budget n ≡ false → n ≤ budget
      within n h = grind (arith, nat_tests, h)

      by_answer : (n : ℕ) (o : Option (List Choice)) → n ≤ budget → answer_of w mv n o ≡ Blocked tree visits → (visits ≤ budget) × HasNumbers tree
      by_answer n (Some choices) few h = cc
      by_answer n None few h =
          let same : refutation_of w mv ≡ tree = cc in
          let count : n ≡ visits = cc in
          (omega (arith, count, few), subst HasNumbers same tree-numbers)

      by_budget : (b : Bool) → nat_lt budget (visits_of w mv) ≡ b → cond b (Spent budget) (answer_of w mv (visits_of w mv) (first_allowed w mv)) ≡ Blocked tree visits → (visits ≤ budget) × HasNumbers tree
      by_budget true t h = cc
      by_budget false t h = by_answer (visits_of w mv) (first_allowed w mv) (within (visits_of w mv) t) h

      told : (visits ≤ budget) × HasNumbers tree
      told = by_budget (nat_lt budget (visits_of w mv)) refl e
