-- Checked rows have at most 20,000 sections, and each at least one, so there are at most as many offerings.
use Rattle.std.specs.Prelude.{◌≡◌, ℕ, ◌+◌, ◌≤◌, Bool, true, false, nat_lt, cond, List, [], ◌∷◌, ◌++◌, length, map, find, flat_map, Some, None, refl}
use Rattle.std.specs.Bool.{then_some}
use Rattle.std.specs.Option.{option_map, is_none}
use Rattle.std.proofs.Common.{sym, ◌∙◌, ap, subst, arith, inl, append_assoc}
use Rattle.std.proofs.lemmas.Bool.Decides.{nat_tests}
use Rattle.std.proofs.lemmas.List.{append-nil, length-append}
use Rattle.sect_base.specs.Capped.{capped}
use Rattle.sect_catalog.specs.declared.row.CatalogFault.TheVariants.{Known, NoCourse, NoConfig, NoSubpart, NoSection, BadParent, TooMany}
use Rattle.sect_catalog.specs.Catalogue.{Catalogue, sections_in, all_sections}
use Rattle.sect_catalog.specs.Fault.{known_id, is_empty, bad_parent, above, too_many, are_checked_after, are_checked}
use Rattle.sect_model.specs.Data.{OfferingRow, SubpartRow}
use Rattle.sect_model.proofs.Members
use Rattle.sect_model.proofs.Members.{Member, both-left, both-right, not_both, not_true}
use Rattle.sect_model.proofs.OfferingChange.{none-left, none-right, none-map}
use Rattle.sect_model.proofs.CheckedLemmas.{sections_of, row-by-row, passed, flat-append}
use Rattle.sect_model.proofs.BatchLemmas.{none-find, not_said}

-- ---- what isn't empty

some-member : {X : Type 0} (xs : List X) → is_empty xs ≡ false → (x : X) × Member xs x
some-member [] h = absurd (not_both true refl h)
some-member (x ∷ xs) h = (x, inl refl)

at_least_one : {X : Type 0} (xs : List X) (x : X) → Member xs x → 1 ≤ length xs
at_least_one [] x m = absurd m
at_least_one (y ∷ ys) x m = omega arith

within : (limit n : ℕ) → is_none (above limit (n ∷ [])) ≡ true → n ≤ limit
within limit n h = by_test (nat_lt limit n) refl h
  where
    least : nat_lt limit n ≡ false → n ≤ limit
    least e = grind (arith, nat_tests, e)

    by_test : (b : Bool) → nat_lt limit n ≡ b → is_none (cond b (Some n) None) ≡ true → n ≤ limit
    by_test true e h = absurd (not_both false h refl)
    by_test false e h = least e

-- ---- a row that passed

-- what its check says of its sections
record Sized (before : List OfferingRow) (o : OfferingRow) : Type 0 where
  some : 1 ≤ length (sections_of o)
  few : length (all_sections before) + length (sections_of o) ≤ 20000

sized : (before : List OfferingRow) (o : OfferingRow) → passed before o ≡ true → Sized before o
sized before o h =
    let c : Catalogue = record { rows = before; cancelled = [] } in
    let subparts : List SubpartRow = flat_map (λ g. g.subparts) o.configs in
    let b = none-right (option_map Known (known_id c o)) _ h in
    let d = none-right (then_some (is_empty o.courses) NoCourse) _ b in
    let e = none-right (then_some (is_empty o.configs) NoConfig) _ d in
    let f = none-right (option_map (λ g. NoSubpart g.id.0) (find (λ g. is_empty g.subparts) o.configs)) _ e in
    let i = none-right (option_map (λ p. NoSection p.id.0) (find (λ p. is_empty p.sections) subparts)) _ f in
    let j = none-right (option_map BadParent (bad_parent o.configs)) _ i in
    let counts = sym (none-map (λ n. TooMany (capped n)) (too_many c o)) ∙ j in
    let g = some-member o.configs (not_said (is_empty o.configs) NoConfig (none-left (then_some (is_empty o.configs) NoConfig) _ d)) in
    let p = some-member g.0.subparts
    (none-find (λ g. is_empty g.subparts) o.configs
    (sym (none-map (λ g. NoSubpart g.id.0) (find (λ g. is_empty g.subparts) o.configs)) ∙ none-left (option_map (λ g. NoSubpart g.id.0) (find (λ g. is_empty g.subparts) o.configs)) _ e) g.0 g.1) in
    let in_row = Members.member-of_flat_map (λ g. g.subparts) o.configs g.0 p.0 g.1 p.1 in
    let s = some-member p.0.sections
    (none-find (λ p. is_empty p.sections) subparts
    (sym (none-map (λ p. NoSection p.id.0) (find (λ p. is_empty p.sections) subparts)) ∙ none-left (option_map (λ p. NoSection p.id.0) (find (λ p. is_empty p.sections) subparts)) _ f) p.0 in_row) in record {
      some = at_least_one (sections_of o) s.0 (Members.member-of_flat_map (λ p. p.sections) subparts p.0 s.0 in_row s.1);
      few = within 20000 (length (all_sections before) + length (sections_of o))
          (none-right (above 8 (map (λ s. length s.meetings) (sections_in subparts))) _
          (none-right (above 200 (map (λ p. length p.sections) subparts)) _
          (none-right (above 6 (map (λ g. length g.subparts) o.configs)) _
          (none-right (above 10 (length o.configs ∷ [])) _
          (none-right (above 10 (length o.courses ∷ [])) _ counts)))));
    }

-- ---- all rows

one-more-sections : (before : List OfferingRow) (o : OfferingRow) → length (all_sections (before ++ o ∷ [])) ≡ length (all_sections before) + length (sections_of o)
one-more-sections before o =
    ap length (row-by-row (before ++ o ∷ []) ∙ flat-append sections_of before (o ∷ []) ∙ (λ i. sym (row-by-row before) i ++ append-nil (sections_of o) i))
    ∙ length-append (all_sections before) (sections_of o)

-- as many sections as rows at least, and 20,000 at most
record Few (rows : List OfferingRow) : Type 0 where
  rows_few : length rows ≤ length (all_sections rows)
  sections_few : length (all_sections rows) ≤ 20000

few-more : (before : List OfferingRow) (o : OfferingRow) → Few before → Sized before o → Few (before ++ o ∷ [])
few-more before o f s = record {
  rows_few = joined (length before) (length (all_sections before)) (length (sections_of o)) (length (before ++ o ∷ [])) (length (all_sections (before ++ o ∷ []))) f.rows_few s.some (length-append before (o ∷ [])) (one-more-sections before o);
  sections_few = subst (λ n. n ≤ 20000) (sym (one-more-sections before o)) s.few;
}
  where
    joined : (a b c m n : ℕ) → a ≤ b → 1 ≤ c → m ≡ a + 1 → n ≡ b + c → m ≤ n
    joined a b c m n h i e g = omega (arith, h, i, e, g)

few-after : (before os : List OfferingRow) → are_checked_after before os ≡ true → Few before → Few (before ++ os)
few-after before [] h f = subst Few (sym (append-nil before)) f
few-after before (o ∷ os) h f =
    subst Few (append_assoc before (o ∷ []) os)
    (few-after (before ++ o ∷ []) os (both-right (passed before o) (are_checked_after (before ++ o ∷ []) os) h)
    (few-more before o f (sized before o (both-left (passed before o) (are_checked_after (before ++ o ∷ []) os) h))))

pub rows-few : (rows : List OfferingRow) → are_checked rows ≡ true → length rows ≤ 20000
rows-few rows h = least (few-after [] rows h (record { rows_few = omega arith; sections_few = omega arith }))
  where
    least : Few rows → length rows ≤ 20000
    least f = omega (arith, f.rows_few, f.sections_few)
