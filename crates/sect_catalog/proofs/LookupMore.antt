-- Configurations, courses and offerings: what the index tells is what a look-up by id finds.
use Rattle.std.specs.Prelude.{◌≡◌, ℕ, Bool, true, false, ◌==◌, ◌||◌, cond, List, [], ◌∷◌, ◌++◌, find, Option, Some, None, refl, slice_get}
use Rattle.std.specs.List.{list_any, list_all}
use Rattle.std.specs.Option.{option_or, option_map, option_and_then, is_some}
use Rattle.std.proofs.Common.{sym, ◌∙◌, ap, arith}
use Rattle.std.proofs.lemmas.Bool.Decides.{nat_tests}
use Rattle.sect_catalog.specs.declared.row.OfferingRow.{OfferingRow}
use Rattle.sect_catalog.specs.declared.row.ConfigRow.{ConfigRow}
use Rattle.sect_catalog.specs.declared.row.CourseRow.{CourseRow}
use Rattle.sect_catalog.specs.declared.place.Place.{Place}
use Rattle.sect_catalog.specs.Catalogue.{all_courses, all_configs}
use Rattle.sect_catalog.specs.Place.{Entry, placed, section_entry, subpart_entries, config_entries, course_entry, at_row, row_entries, all_entries, place_in, config_at, course_at}
use Rattle.sect_catalog.proofs.IndexLemmas.{place-append}
use Rattle.sect_catalog.proofs.AppendLemmas.{both, all-row}
use Rattle.sect_catalog.proofs.LookupLemmas.{same, none-placed, none-or, or-none, flat-self, then-self, config-stands, known-level, found-level}

swapped : (m n : ℕ) → (m == n) ≡ (n == m)
swapped m n = grind (arith, nat_tests)

-- an element's own entry, where the others aren't of its kind
own-known : {Y : Type 0} (id n : ℕ) (at : Place) (rest : Option Place) (y : Y) → rest ≡ None → is_some (cond (id == n) (Some at) rest) ≡ is_some (cond (n == id) (Some y) None)
own-known {Y = Y} id n at rest y e = (λ i. is_some (cond (swapped id n i) (Some at) (e i))) ∙ by_test (n == id)
  where
    by_test : (b : Bool) → is_some (cond b (Some at) None) ≡ is_some (cond {A = Option Y} b (Some y) None)
    by_test true = refl
    by_test false = refl

own-inside : {Y : Type 0} (id n : ℕ) (at : Place) (rest : Option Place) (y : Y) → rest ≡ None → option_and_then (λ at. Some y) (cond (id == n) (Some at) rest) ≡ cond (n == id) (Some y) None
own-inside {Y = Y} id n at rest y e = (λ i. option_and_then (λ at. Some y) (cond (swapped id n i) (Some at) (e i))) ∙ by_test (n == id)
  where
    by_test : (b : Bool) → option_and_then (λ at. Some y) (cond b (Some at) None) ≡ cond {A = Option Y} b (Some y) None
    by_test true = refl
    by_test false = refl

module _ (id : ℕ) where
  -- ---- configurations

  abbrev config_key : ℕ × ℕ
  config_key = (2, id)

  abbrev is_config : ConfigRow → Bool
  is_config g = g.id.0 == id

  no-config-below : (at : Place) (g : ConfigRow) → place_in (placed (subpart_entries at) 0 g.subparts) config_key ≡ None
  no-config-below at g = none-placed config_key (subpart_entries at) (λ k p. none-placed config_key (section_entry (record at { subpart = k })) (λ l s. refl) 0 p.sections) 0 g.subparts

  config-known : (at : Place) (j : ℕ) (g : ConfigRow) → is_some (place_in (config_entries at j g) config_key) ≡ is_some (find is_config (g ∷ []))
  config-known at j g = own-known id g.id.0 (record at { config = j }) (place_in (placed (subpart_entries (record at { config = j })) 0 g.subparts) config_key) g (no-config-below (record at { config = j }) g)

  config-inside : (at : Place) (j : ℕ) (g : ConfigRow) → option_and_then (λ at. Some g) (place_in (config_entries at j g) config_key) ≡ find is_config (g ∷ [])
  config-inside at j g = own-inside id g.id.0 (record at { config = j }) (place_in (placed (subpart_entries (record at { config = j })) 0 g.subparts) config_key) g (no-config-below (record at { config = j }) g)

  config-place : (n : ℕ) (o : OfferingRow) → place_in (row_entries n o) config_key ≡ place_in (placed (config_entries (at_row n)) 0 o.configs) config_key
  config-place n o =
      place-append (placed (course_entry (at_row n)) 0 o.courses) (placed (config_entries (at_row n)) 0 o.configs) config_key
      ∙ ap (λ p. option_or p (place_in (placed (config_entries (at_row n)) 0 o.configs) config_key)) (none-placed config_key (course_entry (at_row n)) (λ n c. refl) 0 o.courses)

  pub row-config-known : (n : ℕ) (o : OfferingRow) → is_some (place_in (row_entries n o) config_key) ≡ is_some (find is_config o.configs)
  row-config-known n o =
      ap is_some (config-place n o) ∙ known-level config_key is_config (config_entries (at_row n)) (λ g. g ∷ []) (config-known (at_row n)) 0 o.configs
      ∙ ap (λ gs. is_some (find is_config gs)) (flat-self o.configs)

  row-config-inside : (n : ℕ) (o : OfferingRow) → option_and_then (λ at. slice_get o.configs at.config) (place_in (row_entries n o) config_key) ≡ find is_config o.configs
  row-config-inside n o =
      (λ i. option_and_then (λ at. sym (then-self (slice_get o.configs at.config)) i) (config-place n o i))
      ∙ found-level config_key is_config (config_entries (at_row n)) (λ g. g ∷ []) (config-known (at_row n)) (λ g at. Some g) (λ at. at.config) (config-inside (at_row n))
      (λ j g. config-stands (λ at. at.config == j) (at_row n) j g (λ k l. same j) (λ k. same j) (same j)) o.configs
      ∙ ap (find is_config) (flat-self o.configs)

  pub config-found : (rows : List OfferingRow) → option_and_then (config_at rows) (place_in (all_entries rows) config_key) ≡ find is_config (all_configs rows)
  config-found rows =
      found-level config_key is_config row_entries (λ o. o.configs) row-config-known (λ o at. slice_get o.configs at.config) (λ at. at.row) row-config-inside
      (λ n o. all-row (λ at. at.row == n) n o (λ at e. ap (λ k. k == n) e ∙ same n)) rows

  -- ---- offerings

  abbrev offering_key : ℕ × ℕ
  offering_key = (0, id)

  abbrev is_offering : OfferingRow → Bool
  is_offering o = o.id.0 == id

  no-offering-below : (n : ℕ) (o : OfferingRow) → place_in (placed (course_entry (at_row n)) 0 o.courses ++ placed (config_entries (at_row n)) 0 o.configs) offering_key ≡ None
  no-offering-below n o =
      place-append (placed (course_entry (at_row n)) 0 o.courses) (placed (config_entries (at_row n)) 0 o.configs) offering_key
      ∙ none-or (place_in (placed (course_entry (at_row n)) 0 o.courses) offering_key) (place_in (placed (config_entries (at_row n)) 0 o.configs) offering_key)
      (none-placed offering_key (course_entry (at_row n)) (λ n c. refl) 0 o.courses)
      (none-placed offering_key (config_entries (at_row n)) (λ j g. none-placed offering_key (subpart_entries (record (at_row n) { config = j }))
      (λ k p. none-placed offering_key (section_entry (record (at_row n) { config = j; subpart = k })) (λ l s. refl) 0 p.sections) 0 g.subparts) 0 o.configs)

  pub offering-found : (rows : List OfferingRow) → option_and_then (λ at. slice_get rows at.row) (place_in (all_entries rows) offering_key) ≡ find is_offering rows
  offering-found rows =
      (λ i. option_and_then (λ at. sym (then-self (slice_get rows at.row)) i) (place_in (all_entries rows) offering_key))
      ∙ found-level offering_key is_offering row_entries (λ o. o ∷ [])
      (λ n o. own-known id o.id.0 (at_row n) (place_in (placed (course_entry (at_row n)) 0 o.courses ++ placed (config_entries (at_row n)) 0 o.configs) offering_key) o (no-offering-below n o))
      (λ o at. Some o) (λ at. at.row)
      (λ n o. own-inside id o.id.0 (at_row n) (place_in (placed (course_entry (at_row n)) 0 o.courses ++ placed (config_entries (at_row n)) 0 o.configs) offering_key) o (no-offering-below n o))
      (λ n o. all-row (λ at. at.row == n) n o (λ at e. ap (λ k. k == n) e ∙ same n)) rows
      ∙ ap (find is_offering) (flat-self rows)

  -- ---- courses

  abbrev course_key : ℕ × ℕ
  course_key = (1, id)

  abbrev is_course : CourseRow → Bool
  is_course c = c.id.0 == id

  course-place : (n : ℕ) (o : OfferingRow) → place_in (row_entries n o) course_key ≡ place_in (placed (course_entry (at_row n)) 0 o.courses) course_key
  course-place n o =
      place-append (placed (course_entry (at_row n)) 0 o.courses) (placed (config_entries (at_row n)) 0 o.configs) course_key
      ∙ or-none (place_in (placed (course_entry (at_row n)) 0 o.courses) course_key) (place_in (placed (config_entries (at_row n)) 0 o.configs) course_key)
      (none-placed course_key (config_entries (at_row n)) (λ j g. none-placed course_key (subpart_entries (record (at_row n) { config = j }))
      (λ k p. none-placed course_key (section_entry (record (at_row n) { config = j; subpart = k })) (λ l s. refl) 0 p.sections) 0 g.subparts) 0 o.configs)

  course-known : (at : Place) (j : ℕ) (c : CourseRow) → is_some (place_in (course_entry at j c) course_key) ≡ is_some (find is_course (c ∷ []))
  course-known at j c = own-known id c.id.0 (record at { config = j }) None c refl

  row-course-known : (n : ℕ) (o : OfferingRow) → is_some (place_in (row_entries n o) course_key) ≡ is_some (find is_course o.courses)
  row-course-known n o =
      ap is_some (course-place n o) ∙ known-level course_key is_course (course_entry (at_row n)) (λ c. c ∷ []) (course-known (at_row n)) 0 o.courses
      ∙ ap (λ cs. is_some (find is_course cs)) (flat-self o.courses)

  row-course-inside : (n : ℕ) (o : OfferingRow) → option_and_then (λ at. slice_get o.courses at.config) (place_in (row_entries n o) course_key) ≡ find is_course o.courses
  row-course-inside n o =
      (λ i. option_and_then (λ at. sym (then-self (slice_get o.courses at.config)) i) (course-place n o i))
      ∙ found-level course_key is_course (course_entry (at_row n)) (λ c. c ∷ []) (course-known (at_row n)) (λ c at. Some c) (λ at. at.config)
      (λ j c. own-inside id c.id.0 (record (at_row n) { config = j }) None c refl) (λ j c. both (j == j) true (same j) refl) o.courses
      ∙ ap (find is_course) (flat-self o.courses)

  pub stands-in-row : (n : ℕ) (o : OfferingRow) → list_all (λ (e : Entry). e.1.row == n) (row_entries n o) ≡ true
  stands-in-row n o = all-row (λ at. at.row == n) n o (λ at e. ap (λ k. k == n) e ∙ same n)

  second-of : (rows : List OfferingRow) (at : Place) → option_map (λ found. found.1) (course_at rows at) ≡ option_and_then (λ o. slice_get o.courses at.config) (slice_get rows at.row)
  second-of rows at = by_row (slice_get rows at.row)
    where
      by_course : (o : OfferingRow) (c : Option CourseRow) → option_map (λ (found : OfferingRow × CourseRow). found.1) (option_map (λ c. (o, c)) c) ≡ c
      by_course o None = refl
      by_course o (Some c) = refl

      by_row : (o : Option OfferingRow) → option_map (λ (found : OfferingRow × CourseRow). found.1) (option_and_then (λ o. option_map (λ c. (o, c)) (slice_get o.courses at.config)) o) ≡ option_and_then (λ o. slice_get o.courses at.config) o
      by_row None = refl
      by_row (Some o) = by_course o (slice_get o.courses at.config)

  map-then : {X Y Z : Type 0} (f : X → Option Y) (g : Y → Z) (o : Option X) → option_map g (option_and_then f o) ≡ option_and_then (λ x. option_map g (f x)) o
  map-then f g None = refl
  map-then f g (Some x) = refl

  pub course-found : (rows : List OfferingRow) → option_map (λ found. found.1) (option_and_then (course_at rows) (place_in (all_entries rows) course_key)) ≡ find is_course (all_courses rows)
  course-found rows =
      map-then (course_at rows) (λ found. found.1) (place_in (all_entries rows) course_key)
      ∙ (λ i. option_and_then (λ at. second-of rows at i) (place_in (all_entries rows) course_key))
      ∙ found-level course_key is_course row_entries (λ o. o.courses) row-course-known (λ o at. slice_get o.courses at.config) (λ at. at.row) row-course-inside stands-in-row rows

  -- the offering that has the course
  first-of : (rows : List OfferingRow) (at : Place) → option_map (λ found. found.0) (course_at rows at) ≡ option_and_then (λ o. option_map (λ c. o) (slice_get o.courses at.config)) (slice_get rows at.row)
  first-of rows at = by_row (slice_get rows at.row)
    where
      by_course : (o : OfferingRow) (c : Option CourseRow) → option_map (λ (found : OfferingRow × CourseRow). found.0) (option_map (λ c. (o, c)) c) ≡ option_map (λ c. o) c
      by_course o None = refl
      by_course o (Some c) = refl

      by_row : (o : Option OfferingRow) → option_map (λ (found : OfferingRow × CourseRow). found.0) (option_and_then (λ o. option_map (λ c. (o, c)) (slice_get o.courses at.config)) o)
          ≡ option_and_then (λ o. option_map (λ c. o) (slice_get o.courses at.config)) o
      by_row None = refl
      by_row (Some o) = by_course o (slice_get o.courses at.config)

  among : {X Y : Type 0} (test : X → Bool) (xs : List X) (y : Y) → option_map (λ x. y) (find test xs) ≡ cond (list_any test xs) (Some y) None
  among test [] y = refl
  among {Y = Y} test (x ∷ xs) y = by_test (among test xs y) (test x)
    where
      by_test : option_map (λ x. y) (find test xs) ≡ cond (list_any test xs) (Some y) None → (b : Bool)
          → option_map (λ x. y) (cond b (Some x) (find test xs)) ≡ cond {A = Option Y} (b || list_any test xs) (Some y) None
      by_test ih true = refl
      by_test ih false = ih

  pub is-among : {X Y : Type 0} (test : X → Bool) (xs : List X) (y : Y) → is_some (find test xs) ≡ is_some (cond (list_any test xs) (Some y) None)
  is-among test [] y = refl
  is-among {Y = Y} test (x ∷ xs) y = by_test (is-among test xs y) (test x)
    where
      by_test : is_some (find test xs) ≡ is_some (cond (list_any test xs) (Some y) None) → (b : Bool)
          → is_some (cond b (Some x) (find test xs)) ≡ is_some (cond {A = Option Y} (b || list_any test xs) (Some y) None)
      by_test ih true = refl
      by_test ih false = ih

  pub course-offering-found : (rows : List OfferingRow) → option_map (λ found. found.0) (option_and_then (course_at rows) (place_in (all_entries rows) course_key)) ≡ find (λ o. list_any is_course o.courses) rows
  course-offering-found rows =
      map-then (course_at rows) (λ found. found.0) (place_in (all_entries rows) course_key)
      ∙ (λ i. option_and_then (λ at. first-of rows at i) (place_in (all_entries rows) course_key))
      ∙ found-level course_key (λ o. list_any is_course o.courses) row_entries (λ o. o ∷ [])
      (λ n o. row-course-known n o ∙ is-among is_course o.courses o)
      (λ o at. option_map (λ c. o) (slice_get o.courses at.config)) (λ at. at.row)
      (λ n o. sym (map-then (λ at. slice_get o.courses at.config) (λ c. o) (place_in (row_entries n o) course_key)) ∙ ap (option_map (λ c. o)) (row-course-inside n o) ∙ among is_course o.courses o)
      stands-in-row rows
      ∙ ap (find (λ o. list_any is_course o.courses)) (flat-self rows)
