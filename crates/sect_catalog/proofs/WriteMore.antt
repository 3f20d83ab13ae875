-- The limit of a configuration or a course, written at the place that the index tells; and no id stands twice.
use Rattle.std.specs.Prelude.{◌≡◌, ℕ, ◌+◌, ◌≤◌, nat_lt, Bool, true, false, ◌==◌, ◌||◌, cond, List, [], ◌∷◌, ◌++◌, length, map, filter, flat_map, Option, Some, None, refl}
use Rattle.std.specs.List.{list_any, list_all}
use Rattle.std.specs.Option.{option_or, is_none}
use Rattle.std.proofs.Common.{sym, ◌∙◌, ap, arith, subst, append_assoc}
use Rattle.std.proofs.lemmas.Bool.Decides.{nat_tests}
use Rattle.std.proofs.lemmas.List.{append-nil}
use Rattle.std.proofs.lemmas.Grind.{flat_map-append}
use Rattle.sect_base.specs.declared.ids.CourseId.{CourseId}
use Rattle.sect_base.specs.declared.ids.ConfigId.{ConfigId}
use Rattle.sect_base.specs.declared.limit.Cap.{Cap}
use Rattle.sect_base.specs.declared.limit.Cap.TheVariants.{Course as cap_course, Config as cap_config, Section as cap_section}
use Rattle.sect_base.specs.declared.limit.Limit.{Limit}
use Rattle.sect_catalog.specs.declared.row.OfferingRow.{OfferingRow}
use Rattle.sect_catalog.specs.declared.row.CourseRow.{CourseRow}
use Rattle.sect_catalog.specs.declared.row.ConfigRow.{ConfigRow}
use Rattle.sect_catalog.specs.declared.place.Place.{Place}
use Rattle.sect_catalog.specs.Fault.{same_kind, row_ids, stands_twice, fault_of, are_checked_after, are_checked}
use Rattle.sect_catalog.specs.Limits.{with_limit, capped_course, capped_config, capped_subpart, capped_section, change_at, put_course, put_config, put_at, cap_key}
use Rattle.sect_catalog.specs.Place.{Entry, placed, section_entry, subpart_entries, config_entries, course_entry, at_row, row_entries, all_entries, place_in}
use Rattle.sect_catalog.proofs.AppendLemmas.{both, both-left, both-right, all-row}
use Rattle.sect_catalog.proofs.CheckLemmas.{ids_of, ids-all}
use Rattle.sect_catalog.proofs.IndexLemmas.{place-append, one_id}
use Rattle.sect_catalog.proofs.LookupLemmas.{same, none-placed, or-none, config-stands}
use Rattle.sect_catalog.proofs.RemoveLemmas.{none-left, none-right, taken_in, none-taken}
use Rattle.sect_catalog.proofs.WriteLemmas.{swapped, hits, hits-append, entry-hits, same-level, write-level, map-id, test-true, test-false, section-written, section-absent}

-- ---- a configuration's limit

module _ (id : ConfigId) (limit : Limit) where
  abbrev config_cap : Cap
  config_cap = cap_config id

  abbrev config_key : ℕ × ℕ
  config_key = (2, id.0)

  no-config-below : (at : Place) (g : ConfigRow) → place_in (placed (subpart_entries at) 0 g.subparts) config_key ≡ None
  no-config-below at g = none-placed config_key (subpart_entries at) (λ k p. none-placed config_key (section_entry (record at { subpart = k })) (λ l s. refl) 0 p.sections) 0 g.subparts

  subparts-same : (g : ConfigRow) → map (capped_subpart config_cap limit) g.subparts ≡ g.subparts
  subparts-same g = map-id (capped_subpart config_cap limit) (λ p. ap (λ ss. record p { sections = ss }) (map-id (capped_section config_cap limit) (λ s. refl) p.sections)) g.subparts

  config-outside : (at : Place) (n : ℕ) (g : ConfigRow) → place_in (config_entries at n g) config_key ≡ None → capped_config config_cap limit g ≡ g
  config-outside at n g e =
      λ i. record g {
        limit = cond ((swapped g.id.0 id.0 ∙ test-false (id.0 == g.id.0) (record at { config = n }) (place_in (placed (subpart_entries (record at { config = n })) 0 g.subparts) config_key) e) i) limit g.limit;
        subparts = subparts-same g i;
      }

  config-inside : (at0 : Place) (n : ℕ) (g : ConfigRow) (at : Place) → hits config_key (ids_of (config_entries at0 n g)) ≤ 1 → place_in (config_entries at0 n g) config_key ≡ Some at → record g { limit = limit } ≡ capped_config config_cap limit g
  config-inside at0 n g at h e =
      sym (λ i. record g {
        limit =
            cond ((swapped g.id.0 id.0 ∙ test-true (id.0 == g.id.0) (record at0 { config = n }) at (place_in (placed (subpart_entries (record at0 { config = n })) 0 g.subparts) config_key) (no-config-below (record at0 { config = n }) g) e) i)
            limit g.limit;
        subparts = subparts-same g i;
      })

  config-parts : (n : ℕ) (o : OfferingRow) → place_in (row_entries n o) config_key ≡ place_in (placed (config_entries (at_row n)) 0 o.configs) config_key
  config-parts n o =
      place-append (placed (course_entry (at_row n)) 0 o.courses) (placed (config_entries (at_row n)) 0 o.configs) config_key
      ∙ ap (λ p. option_or p (place_in (placed (config_entries (at_row n)) 0 o.configs) config_key)) (none-placed config_key (course_entry (at_row n)) (λ n c. refl) 0 o.courses)

  config-courses : (o : OfferingRow) → map (capped_course config_cap limit) o.courses ≡ o.courses
  config-courses o = map-id (capped_course config_cap limit) (λ c. refl) o.courses

  config-row-outside : (n : ℕ) (o : OfferingRow) → place_in (row_entries n o) config_key ≡ None → with_limit config_cap limit o ≡ o
  config-row-outside n o e =
      λ i. record o {
        courses = config-courses o i;
        configs = same-level config_key (config_entries (at_row n)) (capped_config config_cap limit) (config-outside (at_row n)) 0 o.configs (sym (config-parts n o) ∙ e) i;
      }

  config-row-inside : (n : ℕ) (o : OfferingRow) (at : Place) → hits config_key (ids_of (row_entries n o)) ≤ 1 → place_in (row_entries n o) config_key ≡ Some at → put_config limit at o ≡ with_limit config_cap limit o
  config-row-inside n o at h e =
      let sum : hits config_key (ids_of (placed (course_entry (at_row n)) 0 o.courses ++ placed (config_entries (at_row n)) 0 o.configs))
      ≡ hits config_key (ids_of (placed (course_entry (at_row n)) 0 o.courses)) + hits config_key (ids_of (placed (config_entries (at_row n)) 0 o.configs)) =
      entry-hits config_key (placed (course_entry (at_row n)) 0 o.courses) (placed (config_entries (at_row n)) 0 o.configs)
      in
      let few : hits config_key (ids_of (placed (config_entries (at_row n)) 0 o.configs)) ≤ 1 = omega (arith, sum, h) in
      λ i. record o {
        courses = sym (config-courses o) i;
        configs =
            write-level config_key (config_entries (at_row n)) (capped_config config_cap limit) (config-outside (at_row n)) (λ at g. record g { limit = limit }) (λ at. at.config)
            (λ j g. config-stands (λ at. at.config == j) (at_row n) j g (λ k l. same j) (λ k. same j) (same j)) (config-inside (at_row n)) o.configs at few (sym (config-parts n o) ∙ e) i;
      }

-- ---- a course's limit

module _ (id : CourseId) (limit : Limit) where
  abbrev course_cap : Cap
  course_cap = cap_course id

  abbrev course_key : ℕ × ℕ
  course_key = (1, id.0)

  course-outside : (at : Place) (n : ℕ) (c : CourseRow) → place_in (course_entry at n c) course_key ≡ None → capped_course course_cap limit c ≡ c
  course-outside at n c e = ap (λ b. record c { limit = cond b limit c.limit }) (swapped c.id.0 id.0 ∙ test-false (id.0 == c.id.0) (record at { config = n }) None e)

  course-inside : (at0 : Place) (n : ℕ) (c : CourseRow) (at : Place) → hits course_key (ids_of (course_entry at0 n c)) ≤ 1 → place_in (course_entry at0 n c) course_key ≡ Some at → record c { limit = limit } ≡ capped_course course_cap limit c
  course-inside at0 n c at h e = sym (ap (λ b. record c { limit = cond b limit c.limit }) (swapped c.id.0 id.0 ∙ test-true (id.0 == c.id.0) (record at0 { config = n }) at None refl e))

  course-parts : (n : ℕ) (o : OfferingRow) → place_in (row_entries n o) course_key ≡ place_in (placed (course_entry (at_row n)) 0 o.courses) course_key
  course-parts n o =
      place-append (placed (course_entry (at_row n)) 0 o.courses) (placed (config_entries (at_row n)) 0 o.configs) course_key
      ∙ or-none (place_in (placed (course_entry (at_row n)) 0 o.courses) course_key) (place_in (placed (config_entries (at_row n)) 0 o.configs) course_key)
      (none-placed course_key (config_entries (at_row n)) (λ j g. none-placed course_key (subpart_entries (record (at_row n) { config = j }))
      (λ k p. none-placed course_key (section_entry (record (at_row n) { config = j; subpart = k })) (λ l s. refl) 0 p.sections) 0 g.subparts) 0 o.configs)

  configs-same : (o : OfferingRow) → map (capped_config course_cap limit) o.configs ≡ o.configs
  configs-same o =
      map-id (capped_config course_cap limit) (λ g. ap (λ ps. record g { subparts = ps })
      (map-id (capped_subpart course_cap limit) (λ p. ap (λ ss. record p { sections = ss }) (map-id (capped_section course_cap limit) (λ s. refl) p.sections)) g.subparts)) o.configs

  course-row-outside : (n : ℕ) (o : OfferingRow) → place_in (row_entries n o) course_key ≡ None → with_limit course_cap limit o ≡ o
  course-row-outside n o e =
      λ i. record o {
        courses = same-level course_key (course_entry (at_row n)) (capped_course course_cap limit) (course-outside (at_row n)) 0 o.courses (sym (course-parts n o) ∙ e) i;
        configs = configs-same o i;
      }

  course-row-inside : (n : ℕ) (o : OfferingRow) (at : Place) → hits course_key (ids_of (row_entries n o)) ≤ 1 → place_in (row_entries n o) course_key ≡ Some at → put_course limit at o ≡ with_limit course_cap limit o
  course-row-inside n o at h e =
      let sum : hits course_key (ids_of (placed (course_entry (at_row n)) 0 o.courses ++ placed (config_entries (at_row n)) 0 o.configs))
      ≡ hits course_key (ids_of (placed (course_entry (at_row n)) 0 o.courses)) + hits course_key (ids_of (placed (config_entries (at_row n)) 0 o.configs)) =
      entry-hits course_key (placed (course_entry (at_row n)) 0 o.courses) (placed (config_entries (at_row n)) 0 o.configs)
      in
      let few : hits course_key (ids_of (placed (course_entry (at_row n)) 0 o.courses)) ≤ 1 = omega (arith, sum, h) in
      λ i. record o {
        courses =
            write-level course_key (course_entry (at_row n)) (capped_course course_cap limit) (course-outside (at_row n)) (λ at c. record c { limit = limit }) (λ at. at.config)
            (λ j c. both (j == j) true (same j) refl) (course-inside (at_row n)) o.courses at few (sym (course-parts n o) ∙ e) i;
        configs = sym (configs-same o) i;
      }

-- ---- no id stands twice

no-hit : (key : ℕ × ℕ) (ids : List (ℕ × ℕ)) → list_any (same_kind key) ids ≡ false → hits key ids ≡ 0
no-hit key [] h = refl
no-hit key (x ∷ xs) h = by_test (no-hit key xs) (same_kind key x) h
  where
    by_test : (list_any (same_kind key) xs ≡ false → hits key xs ≡ 0) → (b : Bool) → b || list_any (same_kind key) xs ≡ false → length (cond b (x ∷ filter (same_kind key) xs) (filter (same_kind key) xs)) ≡ 0
    by_test ih true h = cc
    by_test ih false h = ih h

-- what no element passes, the one of that id doesn't
none-at : (t : ℕ × ℕ → Bool) (key : ℕ × ℕ) (ids : List (ℕ × ℕ)) → list_any t ids ≡ false → 1 ≤ hits key ids → t key ≡ false
none-at t key [] h one = absurd (omega arith)
none-at t key (x ∷ xs) h one = by_test (none-at t key xs (none-right (t x) (list_any t xs) h)) (same_kind key x) refl one
  where
    by_test : (1 ≤ hits key xs → t key ≡ false) → (b : Bool) → same_kind key x ≡ b → 1 ≤ length (cond b (x ∷ filter (same_kind key) xs) (filter (same_kind key) xs)) → t key ≡ false
    by_test ih true e one = ap t (one_id key x e) ∙ none-left (t x) (list_any t xs) h
    by_test ih false e one = ih one

abbrev AtMostOnce : List OfferingRow → Type 0
AtMostOnce rows = (key : ℕ × ℕ) → hits key (flat_map row_ids rows) ≤ 1

once-more : (rows : List OfferingRow) (o : OfferingRow) → AtMostOnce rows → fault_of (record { rows = rows; cancelled = [] }) o ≡ None → AtMostOnce (rows ++ o ∷ [])
once-more rows o before free key = by_hits (nat_lt 0 (hits key (row_ids o))) refl
  where
    parts : flat_map row_ids (rows ++ o ∷ []) ≡ flat_map row_ids rows ++ row_ids o
    parts = flat_map-append row_ids rows (o ∷ []) ∙ ap (λ ids. flat_map row_ids rows ++ ids) (append-nil (row_ids o))

    sum : hits key (flat_map row_ids (rows ++ o ∷ [])) ≡ hits key (flat_map row_ids rows) + hits key (row_ids o)
    sum = ap (hits key) parts ∙ hits-append key (flat_map row_ids rows) (row_ids o)

    old : hits key (flat_map row_ids rows) ≤ 1
    old = before key

    by_hits : (b : Bool) → nat_lt 0 (hits key (row_ids o)) ≡ b → hits key (flat_map row_ids (rows ++ o ∷ [])) ≤ 1
    by_hits false t = let few : hits key (row_ids o) ≤ 0 = grind (arith, nat_tests) in omega (arith, sum, old, few)
    by_hits true t =
        let one : 1 ≤ hits key (row_ids o) = grind (arith, nat_tests) in
        let fresh : taken_in rows o key ≡ false = none-at (taken_in rows o) key (row_ids o) (none-taken rows o free) one in
        let zero_old : hits key (flat_map row_ids rows) ≡ 0 = no-hit key (flat_map row_ids rows) (none-left (list_any (same_kind key) (flat_map row_ids rows)) (stands_twice (row_ids o) key) fresh) in
        let twice : nat_lt 1 (hits key (row_ids o)) ≡ false = none-right (list_any (same_kind key) (flat_map row_ids rows)) (stands_twice (row_ids o) key) fresh in
        let few : hits key (row_ids o) ≤ 1 = grind (arith, nat_tests) in
        omega (arith, sum, zero_old, few)

no-fault : {X : Type 0} (o : Option X) → is_none o ≡ true → o ≡ None
no-fault None h = refl
no-fault (Some f) h = cc

once-after : (before rows : List OfferingRow) → are_checked_after before rows ≡ true → AtMostOnce before → AtMostOnce (before ++ rows)
once-after before [] h k = subst AtMostOnce (sym (append-nil before)) k
once-after before (o ∷ os) h k =
    subst AtMostOnce (append_assoc before (o ∷ []) os)
    (once-after (before ++ o ∷ []) os (both-right (is_none (fault_of (record { rows = before; cancelled = [] }) o)) (are_checked_after (before ++ o ∷ []) os) h)
    (once-more before o k (no-fault (fault_of (record { rows = before; cancelled = [] }) o) (both-left (is_none (fault_of (record { rows = before; cancelled = [] }) o)) (are_checked_after (before ++ o ∷ []) os) h))))

once : (rows : List OfferingRow) → are_checked rows ≡ true → (key : ℕ × ℕ) → hits key (ids_of (all_entries rows)) ≤ 1
once rows h key = subst (λ ids. hits key ids ≤ 1) (sym (ids-all rows)) (once-after [] rows h nothing key)
  where
    nothing : AtMostOnce []
    nothing key = omega arith

-- ---- whichever has the limit

stands-in-row : (n : ℕ) (o : OfferingRow) → list_all (λ (e : Entry). e.1.row == n) (row_entries n o) ≡ true
stands-in-row n o = all-row (λ at. at.row == n) n o (λ at e. ap (λ k. k == n) e ∙ same n)

pub written : (cap : Cap) (limit : Limit) (rows : List OfferingRow) (at : Place) → are_checked rows ≡ true → place_in (all_entries rows) (cap_key cap) ≡ Some at
    → change_at at.row (put_at cap limit at) rows ≡ map (with_limit cap limit) rows
written (cap_course id) limit rows at h e =
    write-level (1, id.0) row_entries (with_limit (cap_course id) limit) (course-row-outside id limit) (λ at. put_course limit at) (λ at. at.row) stands-in-row (course-row-inside id limit) rows at (once rows h (1, id.0)) e
written (cap_config id) limit rows at h e =
    write-level (2, id.0) row_entries (with_limit (cap_config id) limit) (config-row-outside id limit) (λ at. put_config limit at) (λ at. at.row) stands-in-row (config-row-inside id limit) rows at (once rows h (2, id.0)) e
written (cap_section id) limit rows at h e = section-written id limit rows at (once rows h (4, id.0)) e

pub absent : (cap : Cap) (limit : Limit) (rows : List OfferingRow) → place_in (all_entries rows) (cap_key cap) ≡ None → map (with_limit cap limit) rows ≡ rows
absent (cap_course id) limit rows e = same-level (1, id.0) row_entries (with_limit (cap_course id) limit) (course-row-outside id limit) 0 rows e
absent (cap_config id) limit rows e = same-level (2, id.0) row_entries (with_limit (cap_config id) limit) (config-row-outside id limit) 0 rows e
absent (cap_section id) limit rows e = section-absent id limit rows e
