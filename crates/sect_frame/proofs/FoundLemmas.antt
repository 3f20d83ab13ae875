-- In checked rows, what stands in an offering is found there.
use Rattle.std.specs.Prelude.{◌≡◌, Bool, true, false, ◌==◌, cond, List, [], ◌∷◌, ◌++◌, map, find, flat_map, Some, refl}
use Rattle.std.specs.List.{list_any}
use Rattle.std.specs.Option.{is_some}
use Rattle.std.proofs.Common.{sym, ◌∙◌, ap, subst, inl, inr}
use Rattle.std.proofs.lemmas.Bool.{eqb-true, eq-eqb}
use Rattle.sect_catalog.specs.Catalogue.{find_offering, find_course, find_config, find_section, has_course}
use Rattle.sect_catalog.specs.Fault.{config_ids, row_ids, are_checked}
use Rattle.sect_model.specs.Data.{CourseId, ConfigId, SectionId, OfferingRow}
use Rattle.sect_model.specs.Kept.{has_config}
use Rattle.sect_model.specs.Freer.{has_section}
use Rattle.sect_model.proofs.Members
use Rattle.sect_model.proofs.Members.{Member, known, neither-left, neither-right, not_both}
use Rattle.sect_model.proofs.CheckedLemmas.{sections_of, row-by-row}
use Rattle.sect_model.proofs.FreerRows.{one-row, config-row, section-row}
use Rattle.sect_model.proofs.FreerOfferings.{same-left}

any-found : {X : Type 0} (test : X → Bool) (xs : List X) → list_any test xs ≡ true → is_some (find test xs) ≡ true
any-found test xs h = let x = Members.any-at test xs h in Members.find-some test xs x.0 x.1 x.2

find-past : {X : Type 0} (test : X → Bool) (xs ys : List X) → list_any test xs ≡ false → find test (xs ++ ys) ≡ find test ys
find-past test [] ys h = refl
find-past test (x ∷ xs) ys h =
    (λ i. cond (neither-left (test x) (list_any test xs) h i) (Some x) (find test (xs ++ ys)))
    ∙ find-past test xs ys (neither-right (test x) (list_any test xs) h)

-- what passes in one row alone is found in that row
find-in : {X : Type 0} (test : X → Bool) (part : OfferingRow → List X) (rows : List OfferingRow) (o : OfferingRow) → Member rows o
    → ((x : OfferingRow) → Member rows x → list_any test (part x) ≡ true → x ≡ o) → list_any test (part o) ≡ true
    → find test (flat_map part rows) ≡ find test (part o)
find-in test part [] o m one h = absurd m
find-in test part (x ∷ xs) o m one h = by_test (λ n. find-in test part xs o n (λ y l. one y (inr l)) h) m (list_any test (part x)) refl
  where
    by_test : (Member xs o → find test (flat_map part xs) ≡ find test (part o)) → Member (x ∷ xs) o → (b : Bool) → list_any test (part x) ≡ b
        → find test (part x ++ flat_map part xs) ≡ find test (part o)
    by_test ih m true t = same-left test (part x) (flat_map part xs) (any-found test (part x) t) ∙ ap (λ y. find test (part y)) (one x (inl refl) t)
    by_test ih (inl e) false t = absurd (not_both (list_any test (part o)) h (ap (λ y. list_any test (part y)) (sym e) ∙ t))
    by_test ih (inr n) false t = find-past test (part x) (flat_map part xs) t ∙ ih n

course-id : (o : OfferingRow) (id : CourseId) → has_course o id ≡ true → Member (row_ids o) (1, id.0)
course-id o id h =
    let c = Members.any-at (λ c. c.id.0 == id.0) o.courses h in
    subst (λ n. Member (row_ids o) (1, n)) (eqb-true c.0.id.0 id.0 c.2)
    (inr (Members.member-left (map (λ c. (1, c.id.0)) o.courses) (flat_map config_ids o.configs) (1, c.0.id.0) (Members.member-of_map (λ c. (1, c.id.0)) o.courses c.0 c.1)))

module _ (rows : List OfferingRow) (checked : are_checked rows ≡ true) (o : OfferingRow) (m : Member rows o) where
  pub its-course : (id : CourseId) → has_course o id ≡ true → find_course rows id ≡ find (λ c. c.id.0 == id.0) o.courses
  its-course id h = find-in (λ c. c.id.0 == id.0) (λ o. o.courses) rows o m (λ x n t.
      one-row rows checked x o n m (1, id.0) (1, id.0) (course-id x id t) (course-id o id h) (eq-eqb id.0 id.0 refl)) h

  pub its-config : (id : ConfigId) → has_config o id ≡ true → find_config rows id ≡ find (λ g. g.id.0 == id.0) o.configs
  its-config id h = find-in (λ g. g.id.0 == id.0) (λ o. o.configs) rows o m (λ x n t. config-row rows checked x o id n m t h) h

  pub its-section : (id : SectionId) → has_section o id ≡ true → find_section rows id ≡ find (λ s. s.id.0 == id.0) (sections_of o)
  its-section id h =
      ap (find (λ s. s.id.0 == id.0)) (row-by-row rows)
      ∙ find-in (λ s. s.id.0 == id.0) sections_of rows o m (λ x n t. section-row rows checked x o id n m t h) h

  pub itself : find_offering rows o.id ≡ Some o
  itself =
      let x = known (find_offering rows o.id) (Members.find-some (λ x. x.id.0 == o.id.0) rows o m (eq-eqb o.id.0 o.id.0 refl)) in
      let f = Members.find-member (λ x. x.id.0 == o.id.0) rows x.0 x.1 in
      x.1 ∙ ap Some (one-row rows checked x.0 o f.0 m (0, x.0.id.0) (0, o.id.0) (inl refl) (inl refl) (eq-eqb o.id.0 x.0.id.0 (sym (eqb-true x.0.id.0 o.id.0 f.1))))
