-- A section that is listed stands in the one subpart that the catalogue finds.
use Rattle.std.specs.Prelude.{◌≡◌, ℕ, Bool, true, not, ◌&&◌, ◌==◌, List, [], ◌∷◌, ◌++◌, map, flat_map, Option, Some, refl}
use Rattle.std.specs.List.{list_any, list_all}
use Rattle.std.specs.Option.{option_map, option_to_list}
use Rattle.std.proofs.Common.{sym, ◌∙◌, ap, subst, inl, inr}
use Rattle.std.proofs.lemmas.Bool.{eqb-true, eq-eqb}
use Rattle.sect_catalog.specs.Catalogue.{all_configs, all_subparts, sections_in, subpart_of_section}
use Rattle.sect_catalog.specs.Fault.{are_checked}
use Rattle.sect_model.specs.Data.{SectionRow, SectionId, ConfigId, OfferingRow, SubpartRow}
use Rattle.sect_model.specs.World.{World}
use Rattle.sect_model.specs.Change.{place_of}
use Rattle.sect_model.specs.Refusals.{section_fits, lists_config}
use Rattle.sect_model.specs.Kept.{has_place_in, is_place}
use Rattle.sect_model.proofs.Members
use Rattle.sect_model.proofs.Members.{Member, all-at, both, both-left, both-right, not_both, not_true}
use Rattle.sect_model.proofs.DifferLemmas.{keys_differ, differ-right, differ-across}
use Rattle.sect_model.proofs.CheckedLemmas.{sections-differ}

-- where keys differ over all pieces, two pieces with elements of one key are one
pub one-piece : {X Y : Type 0} (key : Y → ℕ) (f : X → List Y) (xs : List X) → keys_differ key (flat_map f xs) ≡ true → (p q : X) → Member xs p → Member xs q
    → (a b : Y) → Member (f p) a → Member (f q) b → key a ≡ key b → p ≡ q
one-piece key f [] h p q m n a b ma mb e = absurd m
one-piece key f (x ∷ xs) h p q (inl d) (inl c) a b ma mb e = sym d ∙ c
one-piece key f (x ∷ xs) h p q (inl d) (inr n) a b ma mb e =
    absurd (not_both (list_any (λ z. key z == key b) (f x))
    (Members.any-of (λ z. key z == key b) (f x) a (subst (λ v. Member (f v) a) (sym d) ma) (eq-eqb (key a) (key b) e))
    (not_true _ (all-at (λ y. not (list_any (λ z. key z == key y) (f x))) (flat_map f xs) (differ-across key (f x) (flat_map f xs) h) b (Members.member-of_flat_map f xs q b n mb))))
one-piece key f (x ∷ xs) h p q (inr m) (inl c) a b ma mb e =
    absurd (not_both (list_any (λ z. key z == key a) (f x))
    (Members.any-of (λ z. key z == key a) (f x) b (subst (λ v. Member (f v) b) (sym c) mb) (eq-eqb (key b) (key a) (sym e)))
    (not_true _ (all-at (λ y. not (list_any (λ z. key z == key y) (f x))) (flat_map f xs) (differ-across key (f x) (flat_map f xs) h) a (Members.member-of_flat_map f xs p a m ma))))
one-piece key f (x ∷ xs) h p q (inr m) (inr n) a b ma mb e = one-piece key f xs (differ-right key (f x) (flat_map f xs) h) p q m n a b ma mb e

pub same-id : (m n k : ℕ) → m == k ≡ true → n == k ≡ true → m ≡ n
same-id m n k h i = eqb-true m k h ∙ sym (eqb-true n k i)

-- the subpart that has the section is the one that is found
pub found-subpart : (rows : List OfferingRow) → are_checked rows ≡ true → (s : SectionId) (p : SubpartRow) → Member (all_subparts rows) p
    → (a : SectionRow) → Member p.sections a → a.id.0 == s.0 ≡ true → subpart_of_section rows s ≡ Some p
found-subpart rows checked s p in_all a in_p is_it =
    let has : SubpartRow → Bool = λ p. list_any (λ r. r.id.0 == s.0) p.sections in
    by_found (subpart_of_section rows s) refl (Members.known (subpart_of_section rows s) (Members.find-some has (all_subparts rows) p in_all (Members.any-of (λ r. r.id.0 == s.0) p.sections a in_p is_it)))
  where
    one : (q : SubpartRow) → subpart_of_section rows s ≡ Some q → q ≡ p
    one q e =
        let f = Members.find-member (λ p. list_any (λ r. r.id.0 == s.0) p.sections) (all_subparts rows) q e in
        let b = Members.any-at (λ r. r.id.0 == s.0) q.sections f.1 in
        one-piece (λ r. r.id.0) (λ p. p.sections) (all_subparts rows) (sections-differ rows checked) q p f.0 in_all b.0 a b.1 in_p
        (same-id b.0.id.0 a.id.0 s.0 b.2 is_it)

    by_found : (o : Option SubpartRow) → subpart_of_section rows s ≡ o → Members.Known o → o ≡ Some p
    by_found o e k = k.1 ∙ ap Some (one k.0 (e ∙ k.1))

module _ (w : World) (checked : are_checked w.catalogue.rows ≡ true) (o : OfferingRow) (is_row : Member w.catalogue.rows o) (configs : List ConfigId) where
  abbrev has : SectionId → SubpartRow → Bool
  has s p = list_any (λ r. r.id.0 == s.0) p.sections

  -- the subpart that is found is one of the offering's, and has the section
  found-place : (s : SectionId) → section_fits o configs s ≡ true
      → (p : SubpartRow) × (subpart_of_section w.catalogue.rows s ≡ Some p) × (has_place_in o (record { subpart = p.id; section = s }) ≡ true)
  found-place s fits =
      let g = Members.any-at (λ g. lists_config configs g.id && list_any (λ r. r.id.0 == s.0) (sections_in g.subparts)) o.configs fits in
      let a = Members.any-at (λ r. r.id.0 == s.0) (sections_in g.0.subparts) (both-right (lists_config configs g.0.id) _ g.2) in
      let p = Members.member-flat_map (λ p. p.sections) g.0.subparts a.0 a.1 in
      let all : List SubpartRow = all_subparts w.catalogue.rows in
      let config = Members.member-of_flat_map (λ o. o.configs) w.catalogue.rows o g.0 is_row g.1 in
      let in_all : Member all p.0 = Members.member-of_flat_map (λ g. g.subparts) (all_configs w.catalogue.rows) g.0 p.0 config p.1 in
      let has_it : has s p.0 ≡ true = Members.any-of (λ r. r.id.0 == s.0) p.0.sections a.0 p.2 a.2 in
      let found = found-subpart w.catalogue.rows checked s p.0 in_all a.0 p.2 a.2 in (
        p.0,
        found,
        Members.any-of (is_place (record { subpart = p.0.id; section = s })) (flat_map (λ g. g.subparts) o.configs) p.0
            (Members.member-of_flat_map (λ g. g.subparts) o.configs g.0 p.0 g.1 p.1) (both (p.0.id.0 == p.0.id.0) (has s p.0) (eq-eqb p.0.id.0 p.0.id.0 refl) has_it),
      )

  -- so each listed section is one place
  pub places-listed : (sections : List SectionId) → list_all (section_fits o configs) sections ≡ true
      → (map (λ p. p.section) (flat_map (place_of w) sections) ≡ sections) × (list_all (has_place_in o) (flat_map (place_of w) sections) ≡ true)
  places-listed [] fit = (refl, refl)
  places-listed (s ∷ ss) fit =
      let found = found-place s (both-left _ _ fit) in
      let rest = places-listed ss (both-right (section_fits o configs s) _ fit) in
      let one = ap (λ q. option_to_list (option_map (λ p. record { subpart = p.id; section = s }) q)) found.1 in (
        ap (λ ps. map (λ p. p.section) (ps ++ flat_map (place_of w) ss)) one ∙ ap (λ ys. s ∷ ys) rest.0,
        ap (λ ps. list_all (has_place_in o) (ps ++ flat_map (place_of w) ss)) one
            ∙ both (has_place_in o (record { subpart = found.0.id; section = s })) (list_all (has_place_in o) (flat_map (place_of w) ss)) found.2 rest.1,
      )
