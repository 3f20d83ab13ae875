-- A limit written at the place that the index tells is the limit of the one with that id.
use Rattle.std.specs.Prelude.{◌≡◌, ℕ, suc, ◌+◌, ◌≤◌, Bool, true, false, ◌==◌, cond, List, [], ◌∷◌, ◌++◌, length, map, filter, Option, Some, None, refl}
use Rattle.std.specs.Option.{option_or}
use Rattle.std.proofs.Common.{sym, ◌∙◌, ap, arith, subst, append_assoc, length-append}
use Rattle.std.proofs.lemmas.Bool.{eqb-true}
use Rattle.std.proofs.lemmas.Bool.Decides.{nat_tests}
use Rattle.std.proofs.lemmas.List.Elements.{filter-append}
use Rattle.sect_base.specs.declared.ids.SectionId.{SectionId}
use Rattle.sect_base.specs.declared.limit.Cap.{Cap}
use Rattle.sect_base.specs.declared.limit.Cap.TheVariants.{Section as cap_section}
use Rattle.sect_base.specs.declared.limit.Limit.{Limit}
use Rattle.sect_catalog.specs.declared.row.OfferingRow.{OfferingRow}
use Rattle.sect_catalog.specs.declared.row.ConfigRow.{ConfigRow}
use Rattle.sect_catalog.specs.declared.row.SubpartRow.{SubpartRow}
use Rattle.sect_catalog.specs.declared.row.SectionRow.{SectionRow}
use Rattle.sect_catalog.specs.declared.place.Place.{Place}
use Rattle.sect_catalog.specs.Fault.{same_kind}
use Rattle.sect_catalog.specs.Limits.{with_limit, capped_course, capped_config, capped_subpart, capped_section, change_at, put_section, put_in_config, put_in_subpart}
use Rattle.sect_catalog.specs.Place.{Entry, placed, section_entry, subpart_entries, config_entries, course_entry, at_row, row_entries, all_entries, place_in}
use Rattle.sect_catalog.proofs.AppendLemmas.{both, all_at, all-row}
use Rattle.sect_catalog.proofs.ChangeLemmas.{change-here}
use Rattle.sect_catalog.proofs.CheckLemmas.{map-append, ids_of}
use Rattle.sect_catalog.proofs.IndexLemmas.{place-append}
use Rattle.sect_catalog.proofs.LookupLemmas.{same, place-passes, length-one, none-placed, subpart-stands, config-stands}

pub swapped : (m n : ℕ) → (m == n) ≡ (n == m)
swapped m n = grind (arith, nat_tests)

-- how often an id stands in a list
abbrev pub hits : ℕ × ℕ → List (ℕ × ℕ) → ℕ
hits key ids = length (filter (same_kind key) ids)

pub hits-append : (key : ℕ × ℕ) (xs ys : List (ℕ × ℕ)) → hits key (xs ++ ys) ≡ hits key xs + hits key ys
hits-append key xs ys = ap length (filter-append (same_kind key) xs ys) ∙ length-append (filter (same_kind key) xs) (filter (same_kind key) ys)

pub entry-hits : (key : ℕ × ℕ) (es fs : List Entry) → hits key (ids_of (es ++ fs)) ≡ hits key (ids_of es) + hits key (ids_of fs)
entry-hits key es fs = ap (hits key) (map-append (λ (e : Entry). e.0) es fs) ∙ hits-append key (ids_of es) (ids_of fs)

no-place : (key : ℕ × ℕ) (es : List Entry) → hits key (ids_of es) ≡ 0 → place_in es key ≡ None
no-place key [] h = refl
no-place key (e ∷ es) h = by_test (no-place key es) (same_kind key e.0) h
  where
    by_test : (hits key (ids_of es) ≡ 0 → place_in es key ≡ None) → (b : Bool) → length (cond b (e.0 ∷ filter (same_kind key) (ids_of es)) (filter (same_kind key) (ids_of es))) ≡ 0 → cond b (Some e.1) (place_in es key) ≡ None
    by_test ih true h = absurd (omega arith)
    by_test ih false h = ih h

a-hit : (key : ℕ × ℕ) (es : List Entry) (at : Place) → place_in es key ≡ Some at → 1 ≤ hits key (ids_of es)
a-hit key [] at h = cc
a-hit key (e ∷ es) at h = by_test (a-hit key es at) (same_kind key e.0) h
  where
    by_test : (place_in es key ≡ Some at → 1 ≤ hits key (ids_of es)) → (b : Bool) → cond b (Some e.1) (place_in es key) ≡ Some at → 1 ≤ length (cond b (e.0 ∷ filter (same_kind key) (ids_of es)) (filter (same_kind key) (ids_of es)))
    by_test ih true h = omega arith
    by_test ih false h = ih h

-- ---- writes level by level

module _ {X : Type 0} (key : ℕ × ℕ) (f : ℕ → X → List Entry) (change : X → X) (outside : (n : ℕ) (x : X) → place_in (f n x) key ≡ None → change x ≡ x) where
  first-none : (a b : Option Place) → option_or a b ≡ None → a ≡ None
  first-none None b h = refl
  first-none (Some x) b h = cc

  second-none : (a b : Option Place) → option_or a b ≡ None → b ≡ None
  second-none None b h = h
  second-none (Some x) b h = cc

  pub same-level : (n : ℕ) (xs : List X) → place_in (placed f n xs) key ≡ None → map change xs ≡ xs
  same-level n [] h = refl
  same-level n (x ∷ xs) h =
      let parts : option_or (place_in (f n x) key) (place_in (placed f (suc n) xs) key) ≡ None = sym (place-append (f n x) (placed f (suc n) xs) key) ∙ h in
      λ i. outside n x (first-none (place_in (f n x) key) (place_in (placed f (suc n) xs) key) parts) i ∷ same-level (suc n) xs (second-none (place_in (f n x) key) (place_in (placed f (suc n) xs) key) parts) i

  module _ (write : Place → X → X) (pos : Place → ℕ) (stands : (n : ℕ) (x : X) → all_at (λ at. pos at == n) (f n x) ≡ true)
      (inside : (n : ℕ) (x : X) (at : Place) → hits key (ids_of (f n x)) ≤ 1 → place_in (f n x) key ≡ Some at → write at x ≡ change x) where
    write-from : (before xs : List X) (at : Place) → hits key (ids_of (placed f (length before) xs)) ≤ 1 → place_in (placed f (length before) xs) key ≡ Some at
        → change_at (pos at) (write at) (before ++ xs) ≡ before ++ map change xs
    write-from before [] at h e = cc
    write-from before (x ∷ xs) at h e =
        by_place (place_in (f (length before) x) key) refl
        (λ there. ap (λ ys. change_at (pos at) (write at) ys) (sym (append_assoc before (x ∷ []) xs))
        ∙ write-from (before ++ x ∷ []) xs at (subst (λ n. hits key (ids_of (placed f n xs)) ≤ 1) (sym (length-one before x)) second) (ap (λ n. place_in (placed f n xs) key) (length-one before x) ∙ there)
        ∙ append_assoc before (x ∷ []) (map change xs))
        (sym (place-append (f (length before) x) (placed f (suc (length before)) xs) key) ∙ e)
      where
        sum : hits key (ids_of (f (length before) x ++ placed f (suc (length before)) xs)) ≡ hits key (ids_of (f (length before) x)) + hits key (ids_of (placed f (suc (length before)) xs))
        sum = entry-hits key (f (length before) x) (placed f (suc (length before)) xs)

        second : hits key (ids_of (placed f (suc (length before)) xs)) ≤ 1
        second = omega (arith, sum, h)

        by_place : (o : Option Place) → place_in (f (length before) x) key ≡ o
            → (place_in (placed f (suc (length before)) xs) key ≡ Some at → change_at (pos at) (write at) (before ++ x ∷ xs) ≡ before ++ x ∷ map change xs)
            → option_or o (place_in (placed f (suc (length before)) xs) key) ≡ Some at → change_at (pos at) (write at) (before ++ x ∷ xs) ≡ before ++ change x ∷ map change xs
        by_place None e ih is = ih is ∙ ap (λ y. before ++ y ∷ map change xs) (sym (outside (length before) x e))
        by_place (Some p) e ih is =
            let one : p ≡ at = cc in
            let found : place_in (f (length before) x) key ≡ Some at = e ∙ ap Some one in
            let here : pos at ≡ length before = eqb-true (pos at) (length before) (place-passes (λ at. pos at == length before) (f (length before) x) key at (stands (length before) x) found) in
            let hit : 1 ≤ hits key (ids_of (f (length before) x)) = a-hit key (f (length before) x) at found in
            let few : hits key (ids_of (f (length before) x)) ≤ 1 = omega (arith, sum, h) in
            let others : hits key (ids_of (placed f (suc (length before)) xs)) ≡ 0 = omega (arith, sum, h, hit) in
            ap (λ k. change_at k (write at) (before ++ x ∷ xs)) here ∙ change-here (write at) before x xs
            ∙ (λ i. before ++ inside (length before) x at few found i ∷ sym (same-level (suc (length before)) xs (no-place key (placed f (suc (length before)) xs) others)) i)

    pub write-level : (xs : List X) (at : Place) → hits key (ids_of (placed f 0 xs)) ≤ 1 → place_in (placed f 0 xs) key ≡ Some at → change_at (pos at) (write at) xs ≡ map change xs
    write-level xs at h e = write-from [] xs at h e

pub map-id : {X : Type 0} (g : X → X) → ((x : X) → g x ≡ x) → (xs : List X) → map g xs ≡ xs
map-id g same [] = refl
map-id g same (x ∷ xs) = λ i. same x i ∷ map-id g same xs i

pub test-true : (b : Bool) (p at : Place) (rest : Option Place) → rest ≡ None → cond b (Some p) rest ≡ Some at → b ≡ true
test-true true p at rest e h = refl
test-true false p at rest e h = cc

pub test-false : (b : Bool) (p : Place) (rest : Option Place) → cond b (Some p) rest ≡ None → b ≡ false
test-false true p rest h = cc
test-false false p rest h = refl

-- ---- a section's limit

module _ (id : SectionId) (limit : Limit) where
  abbrev cap : Cap
  cap = cap_section id

  abbrev key : ℕ × ℕ
  key = (4, id.0)

  section-outside : (at : Place) (n : ℕ) (s : SectionRow) → place_in (section_entry at n s) key ≡ None → capped_section cap limit s ≡ s
  section-outside at n s e = ap (λ b. record s { limit = cond b limit s.limit }) (swapped s.id.0 id.0 ∙ test-false (id.0 == s.id.0) (record at { section = n }) None e)

  section-inside : (at0 : Place) (n : ℕ) (s : SectionRow) (at : Place) → hits key (ids_of (section_entry at0 n s)) ≤ 1 → place_in (section_entry at0 n s) key ≡ Some at → record s { limit = limit } ≡ capped_section cap limit s
  section-inside at0 n s at h e = sym (ap (λ b. record s { limit = cond b limit s.limit }) (swapped s.id.0 id.0 ∙ test-true (id.0 == s.id.0) (record at0 { section = n }) at None refl e))

  subpart-outside : (at : Place) (n : ℕ) (p : SubpartRow) → place_in (subpart_entries at n p) key ≡ None → capped_subpart cap limit p ≡ p
  subpart-outside at n p e =
      ap (λ ss. record p { sections = ss }) (same-level key (section_entry (record at { subpart = n })) (capped_section cap limit) (section-outside (record at { subpart = n })) 0 p.sections e)

  subpart-inside : (at0 : Place) (n : ℕ) (p : SubpartRow) (at : Place) → hits key (ids_of (subpart_entries at0 n p)) ≤ 1 → place_in (subpart_entries at0 n p) key ≡ Some at → put_in_subpart limit at p ≡ capped_subpart cap limit p
  subpart-inside at0 n p at h e =
      ap (λ ss. record p { sections = ss })
      (write-level key (section_entry (record at0 { subpart = n })) (capped_section cap limit) (section-outside (record at0 { subpart = n })) (λ at s. record s { limit = limit }) (λ at. at.section)
      (λ l s. both (l == l) true (same l) refl) (section-inside (record at0 { subpart = n })) p.sections at h e)

  config-outside : (at : Place) (n : ℕ) (g : ConfigRow) → place_in (config_entries at n g) key ≡ None → capped_config cap limit g ≡ g
  config-outside at n g e =
      ap (λ ps. record g { subparts = ps }) (same-level key (subpart_entries (record at { config = n })) (capped_subpart cap limit) (subpart-outside (record at { config = n })) 0 g.subparts e)

  config-inside : (at0 : Place) (n : ℕ) (g : ConfigRow) (at : Place) → hits key (ids_of (config_entries at0 n g)) ≤ 1 → place_in (config_entries at0 n g) key ≡ Some at → put_in_config limit at g ≡ capped_config cap limit g
  config-inside at0 n g at h e =
      ap (λ ps. record g { subparts = ps })
      (write-level key (subpart_entries (record at0 { config = n })) (capped_subpart cap limit) (subpart-outside (record at0 { config = n })) (λ at. put_in_subpart limit at) (λ at. at.subpart)
      (λ k p. subpart-stands (λ at. at.subpart == k) (record at0 { config = n }) k p (λ l. same k) (same k)) (subpart-inside (record at0 { config = n })) g.subparts at h e)

  no-course : (n : ℕ) (o : OfferingRow) → place_in (placed (course_entry (at_row n)) 0 o.courses) key ≡ None
  no-course n o = none-placed key (course_entry (at_row n)) (λ n c. refl) 0 o.courses

  row-parts : (n : ℕ) (o : OfferingRow) → place_in (row_entries n o) key ≡ place_in (placed (config_entries (at_row n)) 0 o.configs) key
  row-parts n o =
      place-append (placed (course_entry (at_row n)) 0 o.courses) (placed (config_entries (at_row n)) 0 o.configs) key
      ∙ ap (λ p. option_or p (place_in (placed (config_entries (at_row n)) 0 o.configs) key)) (no-course n o)

  courses-same : (o : OfferingRow) → map (capped_course cap limit) o.courses ≡ o.courses
  courses-same o = map-id (capped_course cap limit) (λ c. refl) o.courses

  row-outside : (n : ℕ) (o : OfferingRow) → place_in (row_entries n o) key ≡ None → with_limit cap limit o ≡ o
  row-outside n o e =
      λ i. record o { courses = courses-same o i; configs = same-level key (config_entries (at_row n)) (capped_config cap limit) (config-outside (at_row n)) 0 o.configs (sym (row-parts n o) ∙ e) i }

  row-inside : (n : ℕ) (o : OfferingRow) (at : Place) → hits key (ids_of (row_entries n o)) ≤ 1 → place_in (row_entries n o) key ≡ Some at → put_section limit at o ≡ with_limit cap limit o
  row-inside n o at h e =
      let sum : hits key (ids_of (placed (course_entry (at_row n)) 0 o.courses ++ placed (config_entries (at_row n)) 0 o.configs))
      ≡ hits key (ids_of (placed (course_entry (at_row n)) 0 o.courses)) + hits key (ids_of (placed (config_entries (at_row n)) 0 o.configs)) =
      entry-hits key (placed (course_entry (at_row n)) 0 o.courses) (placed (config_entries (at_row n)) 0 o.configs)
      in
      let few : hits key (ids_of (placed (config_entries (at_row n)) 0 o.configs)) ≤ 1 = omega (arith, sum, h) in
      λ i. record o {
        courses = sym (courses-same o) i;
        configs =
            write-level key (config_entries (at_row n)) (capped_config cap limit) (config-outside (at_row n)) (λ at. put_in_config limit at) (λ at. at.config)
            (λ j g. config-stands (λ at. at.config == j) (at_row n) j g (λ k l. same j) (λ k. same j) (same j)) (config-inside (at_row n)) o.configs at few (sym (row-parts n o) ∙ e) i;
      }

  pub section-written : (rows : List OfferingRow) (at : Place) → hits key (ids_of (all_entries rows)) ≤ 1 → place_in (all_entries rows) key ≡ Some at → change_at at.row (put_section limit at) rows ≡ map (with_limit cap limit) rows
  section-written rows at h e =
      write-level key row_entries (with_limit cap limit) row-outside (λ at. put_section limit at) (λ at. at.row) (λ n o. all-row (λ at. at.row == n) n o (λ at e. ap (λ k. k == n) e ∙ same n)) row-inside rows at h e

  pub section-absent : (rows : List OfferingRow) → place_in (all_entries rows) key ≡ None → map (with_limit cap limit) rows ≡ rows
  section-absent rows e = same-level key row_entries (with_limit cap limit) row-outside 0 rows e
