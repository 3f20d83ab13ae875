-- What stands at the place that the index tells is what a look-up by id finds.
use Rattle.std.specs.Prelude.{◌≡◌, ℕ, suc, Bool, true, false, ◌==◌, cond, List, [], ◌∷◌, ◌++◌, length, find, flat_map, Option, Some, None, refl, slice_get}
use Rattle.std.specs.Option.{option_or, option_and_then, is_some}
use Rattle.std.proofs.Common.{sym, ◌∙◌, ap, arith, subst, append_assoc}
use Rattle.std.proofs.lemmas.Bool.{eqb-true, eq-eqb}
use Rattle.std.proofs.lemmas.Bool.Decides.{nat_tests}
use Rattle.std.proofs.lemmas.Grind.{flat_map-append}
use Rattle.std.proofs.lemmas.List.Folds.{find-append}
use Rattle.sect_catalog.specs.declared.row.OfferingRow.{OfferingRow}
use Rattle.sect_catalog.specs.declared.row.ConfigRow.{ConfigRow}
use Rattle.sect_catalog.specs.declared.row.SubpartRow.{SubpartRow}
use Rattle.sect_catalog.specs.declared.row.SectionRow.{SectionRow}
use Rattle.sect_catalog.specs.declared.place.Place.{Place}
use Rattle.sect_catalog.specs.Catalogue.{sections_in, all_configs, all_sections}
use Rattle.sect_catalog.specs.Fault.{same_kind}
use Rattle.sect_catalog.specs.Place.{Entry, placed, section_entry, subpart_entries, config_entries, course_entry, at_row, row_entries, all_entries, place_in, section_at}
use Rattle.sect_catalog.proofs.IndexLemmas.{place-append}
use Rattle.sect_catalog.proofs.AppendLemmas.{both, both-left, both-right, all_at, all-placed, all-row}

pub same : (n : ℕ) → n == n ≡ true
same n = eq-eqb n n refl

swapped : (m n : ℕ) → (m == n) ≡ (n == m)
swapped m n = grind (arith, nat_tests)

-- the place found passes what all pass
pub place-passes : (q : Place → Bool) (es : List Entry) (key : ℕ × ℕ) (at : Place) → all_at q es ≡ true → place_in es key ≡ Some at → q at ≡ true
place-passes q [] key at h e = cc
place-passes q (x ∷ xs) key at h e = by_test (place-passes q xs key at (both-right (q x.1) (all_at q xs) h)) (same_kind key x.0) e
  where
    by_test : (place_in xs key ≡ Some at → q at ≡ true) → (b : Bool) → cond b (Some x.1) (place_in xs key) ≡ Some at → q at ≡ true
    by_test ih true e = let is : x.1 ≡ at = cc in subst (λ p. q p ≡ true) is (both-left (q x.1) (all_at q xs) h)
    by_test ih false e = ih e

at-length : {X : Type 0} (before : List X) (x : X) (xs : List X) → slice_get (before ++ x ∷ xs) (length before) ≡ Some x
at-length [] x xs = refl
at-length (y ∷ ys) x xs = at-length ys x xs

pub length-one : {X : Type 0} (before : List X) (x : X) → length (before ++ x ∷ []) ≡ suc (length before)
length-one [] x = refl
length-one (y ∷ ys) x = ap suc (length-one ys x)

some-or : {X Y : Type 0} (a b : Option X) (c d : Option Y) → is_some a ≡ is_some c → is_some b ≡ is_some d → is_some (option_or a b) ≡ is_some (option_or c d)
some-or None b None d e f = f
some-or None b (Some y) d e f = cc
some-or (Some x) b None d e f = cc
some-or (Some x) b (Some y) d e f = refl

-- a look-up level by level: what is read inside an element by its own entries is found in the whole list
module _ {X Y : Type 0} (key : ℕ × ℕ) (test : Y → Bool) (f : ℕ → X → List Entry) (ys : X → List Y) (known : (n : ℕ) (x : X) → is_some (place_in (f n x) key) ≡ is_some (find test (ys x))) where
  pub known-level : (n : ℕ) (xs : List X) → is_some (place_in (placed f n xs) key) ≡ is_some (find test (flat_map ys xs))
  known-level n [] = refl
  known-level n (x ∷ xs) =
      ap is_some (place-append (f n x) (placed f (suc n) xs) key)
      ∙ some-or (place_in (f n x) key) (place_in (placed f (suc n) xs) key) (find test (ys x)) (find test (flat_map ys xs)) (known n x) (known-level (suc n) xs)
      ∙ ap is_some (sym (find-append test (ys x) (flat_map ys xs)))

  module _ (read : X → Place → Option Y) (pos : Place → ℕ) (inside : (n : ℕ) (x : X) → option_and_then (read x) (place_in (f n x) key) ≡ find test (ys x)) (stands : (n : ℕ) (x : X) → all_at (λ at. pos at == n) (f n x) ≡ true) where
    from : (before : List X) (xs : List X)
        → option_and_then (λ at. option_and_then (λ x. read x at) (slice_get (before ++ xs) (pos at))) (place_in (placed f (length before) xs) key) ≡ find test (flat_map ys xs)
    from before [] = refl
    from before (x ∷ xs) =
        ap (option_and_then (λ at. option_and_then (λ x. read x at) (slice_get (before ++ x ∷ xs) (pos at)))) (place-append (f (length before) x) (placed f (suc (length before)) xs) key)
        ∙ by_place ((λ i. option_and_then (λ at. option_and_then (λ x. read x at) (slice_get (sym (append_assoc before (x ∷ []) xs) i) (pos at))) (place_in (placed f (sym (length-one before x) i) xs) key)) ∙ from (before ++ x ∷ []) xs)
        (place_in (f (length before) x) key) refl (inside (length before) x) (known (length before) x)
        ∙ sym (find-append test (ys x) (flat_map ys xs))
      where
        first : (a b : Option Y) → is_some a ≡ true → a ≡ option_or a b
        first None b h = cc
        first (Some y) b h = refl

        by_place : option_and_then (λ at. option_and_then (λ x. read x at) (slice_get (before ++ x ∷ xs) (pos at))) (place_in (placed f (suc (length before)) xs) key) ≡ find test (flat_map ys xs)
            → (o : Option Place) → place_in (f (length before) x) key ≡ o → option_and_then (read x) o ≡ find test (ys x) → is_some o ≡ is_some (find test (ys x))
            → option_and_then (λ at. option_and_then (λ x. read x at) (slice_get (before ++ x ∷ xs) (pos at))) (option_or o (place_in (placed f (suc (length before)) xs) key)) ≡ option_or (find test (ys x)) (find test (flat_map ys xs))
        by_place rest None e is some = rest ∙ ap (λ o. option_or o (find test (flat_map ys xs))) is
        by_place rest (Some at) e is some =
            let here : pos at ≡ length before = eqb-true (pos at) (length before) (place-passes (λ at. pos at == length before) (f (length before) x) key at (stands (length before) x) e) in
            ap (λ k. option_and_then (λ x. read x at) (slice_get (before ++ x ∷ xs) k)) here ∙ ap (option_and_then (λ x. read x at)) (at-length before x xs) ∙ is
            ∙ first (find test (ys x)) (find test (flat_map ys xs)) (sym some)

    pub found-level : (xs : List X) → option_and_then (λ at. option_and_then (λ x. read x at) (slice_get xs (pos at))) (place_in (placed f 0 xs) key) ≡ find test (flat_map ys xs)
    found-level xs = from [] xs

-- ---- where entries stand

sections-stand : (q : Place → Bool) (at : Place) → ((l : ℕ) → q (record at { section = l }) ≡ true) → (n : ℕ) (ss : List SectionRow) → all_at q (placed (section_entry at) n ss) ≡ true
sections-stand q at h n ss = all-placed q (section_entry at) (λ l s. both (q (record at { section = l })) true (h l) refl) n ss

pub subpart-stands : (q : Place → Bool) (at : Place) (k : ℕ) (p : SubpartRow) → ((l : ℕ) → q (record at { subpart = k; section = l }) ≡ true) → q (record at { subpart = k }) ≡ true → all_at q (subpart_entries at k p) ≡ true
subpart-stands q at k p h own = both (q (record at { subpart = k })) (all_at q (placed (section_entry (record at { subpart = k })) 0 p.sections)) own (sections-stand q (record at { subpart = k }) h 0 p.sections)

pub config-stands : (q : Place → Bool) (at : Place) (j : ℕ) (g : ConfigRow) → ((k l : ℕ) → q (record at { config = j; subpart = k; section = l }) ≡ true) → ((k : ℕ) → q (record at { config = j; subpart = k }) ≡ true)
    → q (record at { config = j }) ≡ true → all_at q (config_entries at j g) ≡ true
config-stands q at j g h sub own =
    both (q (record at { config = j })) (all_at q (placed (subpart_entries (record at { config = j })) 0 g.subparts)) own
    (all-placed q (subpart_entries (record at { config = j })) (λ k p. subpart-stands q (record at { config = j }) k p (h k) (sub k)) 0 g.subparts)

-- ---- entries of other kinds

pub none-or : {X : Type 0} (a b : Option X) → a ≡ None → b ≡ None → option_or a b ≡ None
none-or a b e f = ap (λ o. option_or o b) e ∙ f

pub none-placed : {X : Type 0} (key : ℕ × ℕ) (f : ℕ → X → List Entry) → ((n : ℕ) (x : X) → place_in (f n x) key ≡ None) → (n : ℕ) (xs : List X) → place_in (placed f n xs) key ≡ None
none-placed key f each n [] = refl
none-placed key f each n (x ∷ xs) =
    place-append (f n x) (placed f (suc n) xs) key ∙ none-or (place_in (f n x) key) (place_in (placed f (suc n) xs) key) (each n x) (none-placed key f each (suc n) xs)

pub or-none : {X : Type 0} (a b : Option X) → b ≡ None → option_or a b ≡ a
or-none None b e = e
or-none (Some x) b e = refl

-- ---- sections

pub flat-self : {X : Type 0} (xs : List X) → flat_map (λ x. x ∷ []) xs ≡ xs
flat-self [] = refl
flat-self (x ∷ xs) = ap (λ ys. x ∷ ys) (flat-self xs)

pub then-self : {X : Type 0} (o : Option X) → option_and_then (λ x. Some x) o ≡ o
then-self None = refl
then-self (Some x) = refl

flat-flat : {X Y Z : Type 0} (f : X → List Y) (g : Y → List Z) (xs : List X) → flat_map g (flat_map f xs) ≡ flat_map (λ x. flat_map g (f x)) xs
flat-flat f g [] = refl
flat-flat f g (x ∷ xs) = flat_map-append g (f x) (flat_map f xs) ∙ ap (λ zs. flat_map g (f x) ++ zs) (flat-flat f g xs)

module _ (id : ℕ) where
  abbrev key : ℕ × ℕ
  key = (4, id)

  abbrev test : SectionRow → Bool
  test s = s.id.0 == id

  one-known : (at : Place) (l : ℕ) (s : SectionRow) → is_some (place_in (section_entry at l s) key) ≡ is_some (find test (s ∷ []))
  one-known at l s = (λ i. is_some (cond (swapped id s.id.0 i) (Some (record at { section = l })) None)) ∙ by_test (s.id.0 == id)
    where
      by_test : (b : Bool) → is_some (cond b (Some (record at { section = l })) None) ≡ is_some (cond b (Some s) None)
      by_test true = refl
      by_test false = refl

  one-inside : (at : Place) (l : ℕ) (s : SectionRow) → option_and_then (λ at. Some s) (place_in (section_entry at l s) key) ≡ find test (s ∷ [])
  one-inside at l s = (λ i. option_and_then (λ at. Some s) (cond (swapped id s.id.0 i) (Some (record at { section = l })) None)) ∙ by_test (s.id.0 == id)
    where
      by_test : (b : Bool) → option_and_then (λ at. Some s) (cond b (Some (record at { section = l })) None) ≡ cond b (Some s) None
      by_test true = refl
      by_test false = refl

  subpart-known : (at : Place) (k : ℕ) (p : SubpartRow) → is_some (place_in (subpart_entries at k p) key) ≡ is_some (find test p.sections)
  subpart-known at k p =
      known-level key test (section_entry (record at { subpart = k })) (λ s. s ∷ []) (one-known (record at { subpart = k })) 0 p.sections
      ∙ ap (λ ss. is_some (find test ss)) (flat-self p.sections)

  subpart-inside : (at : Place) (k : ℕ) (p : SubpartRow) → option_and_then (λ at. slice_get p.sections at.section) (place_in (subpart_entries at k p) key) ≡ find test p.sections
  subpart-inside at k p =
      (λ i. option_and_then (λ at. sym (then-self (slice_get p.sections at.section)) i) (place_in (placed (section_entry (record at { subpart = k })) 0 p.sections) key))
      ∙ found-level key test (section_entry (record at { subpart = k })) (λ s. s ∷ []) (one-known (record at { subpart = k })) (λ s at. Some s) (λ at. at.section) (one-inside (record at { subpart = k }))
      (λ l s. both (l == l) true (same l) refl) p.sections
      ∙ ap (find test) (flat-self p.sections)

  config-known : (at : Place) (j : ℕ) (g : ConfigRow) → is_some (place_in (config_entries at j g) key) ≡ is_some (find test (sections_in g.subparts))
  config-known at j g = known-level key test (subpart_entries (record at { config = j })) (λ p. p.sections) (subpart-known (record at { config = j })) 0 g.subparts

  config-inside : (at : Place) (j : ℕ) (g : ConfigRow)
      → option_and_then (λ at. option_and_then (λ p. slice_get p.sections at.section) (slice_get g.subparts at.subpart)) (place_in (config_entries at j g) key) ≡ find test (sections_in g.subparts)
  config-inside at j g =
      found-level key test (subpart_entries (record at { config = j })) (λ p. p.sections) (subpart-known (record at { config = j })) (λ p at. slice_get p.sections at.section) (λ at. at.subpart) (subpart-inside (record at { config = j }))
      (λ k p. subpart-stands (λ at. at.subpart == k) (record at { config = j }) k p (λ l. same k) (same k)) g.subparts

  -- the sections' entries of a row are those of its configurations
  row-place : (n : ℕ) (o : OfferingRow) → place_in (row_entries n o) key ≡ place_in (placed (config_entries (at_row n)) 0 o.configs) key
  row-place n o =
      place-append (placed (course_entry (at_row n)) 0 o.courses) (placed (config_entries (at_row n)) 0 o.configs) key
      ∙ ap (λ p. option_or p (place_in (placed (config_entries (at_row n)) 0 o.configs) key)) (none-placed key (course_entry (at_row n)) (λ n c. refl) 0 o.courses)

  pub row-known : (n : ℕ) (o : OfferingRow) → is_some (place_in (row_entries n o) key) ≡ is_some (find test (flat_map (λ g. sections_in g.subparts) o.configs))
  row-known n o = ap is_some (row-place n o) ∙ known-level key test (config_entries (at_row n)) (λ g. sections_in g.subparts) (config-known (at_row n)) 0 o.configs

  row-inside : (n : ℕ) (o : OfferingRow)
      → option_and_then (λ at. option_and_then (λ g. option_and_then (λ p. slice_get p.sections at.section) (slice_get g.subparts at.subpart)) (slice_get o.configs at.config)) (place_in (row_entries n o) key)
      ≡ find test (flat_map (λ g. sections_in g.subparts) o.configs)
  row-inside n o =
      ap (option_and_then (λ at. option_and_then (λ g. option_and_then (λ p. slice_get p.sections at.section) (slice_get g.subparts at.subpart)) (slice_get o.configs at.config))) (row-place n o)
      ∙ found-level key test (config_entries (at_row n)) (λ g. sections_in g.subparts) (config-known (at_row n)) (λ g at. option_and_then (λ p. slice_get p.sections at.section) (slice_get g.subparts at.subpart)) (λ at. at.config)
      (config-inside (at_row n)) (λ j g. config-stands (λ at. at.config == j) (at_row n) j g (λ k l. same j) (λ k. same j) (same j)) o.configs

  then-then : {X Y Z : Type 0} (f : X → Option Y) (g : Y → Option Z) (o : Option X) → option_and_then g (option_and_then f o) ≡ option_and_then (λ x. option_and_then g (f x)) o
  then-then f g None = refl
  then-then f g (Some x) = refl

  all-by-row : (rows : List OfferingRow) → flat_map (λ o. flat_map (λ g. sections_in g.subparts) o.configs) rows ≡ all_sections rows
  all-by-row rows =
      sym (flat-flat (λ (o : OfferingRow). o.configs) (λ g. sections_in g.subparts) rows)
      ∙ sym (flat-flat (λ (g : ConfigRow). g.subparts) (λ (p : SubpartRow). p.sections) (all_configs rows))

  pub section-found : (rows : List OfferingRow) → option_and_then (section_at rows) (place_in (all_entries rows) key) ≡ find test (all_sections rows)
  section-found rows =
      (λ i. option_and_then (λ at. shape (slice_get rows at.row) at i) (place_in (all_entries rows) key))
      ∙ found-level key test row_entries (λ o. flat_map (λ g. sections_in g.subparts) o.configs) row-known
      (λ o at. option_and_then (λ g. option_and_then (λ p. slice_get p.sections at.section) (slice_get g.subparts at.subpart)) (slice_get o.configs at.config)) (λ at. at.row)
      row-inside (λ n o. all-row (λ at. at.row == n) n o (λ at e. ap (λ k. k == n) e ∙ same n)) rows
      ∙ ap (find test) (all-by-row rows)
    where
      shape : (o : Option OfferingRow) (at : Place)
          → option_and_then (λ p. slice_get p.sections at.section) (option_and_then (λ g. slice_get g.subparts at.subpart) (option_and_then (λ o. slice_get o.configs at.config) o))
          ≡ option_and_then (λ o. option_and_then (λ g. option_and_then (λ p. slice_get p.sections at.section) (slice_get g.subparts at.subpart)) (slice_get o.configs at.config)) o
      shape None at = refl
      shape (Some o) at = then-then (λ (g : ConfigRow). slice_get g.subparts at.subpart) (λ p. slice_get p.sections at.section) (slice_get o.configs at.config)
