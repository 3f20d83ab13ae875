-- A limit that is set opens nothing for an entry that wants no course of the offering that was recorded with it.
use Rattle.std.specs.Prelude.{◌≡◌, ℕ, suc, ◌-◌, Bool, true, false, ◌==◌, List, [], ◌∷◌, ◌++◌, length, map, find, flat_map, slice_get, Option, Some, None, refl}
use Rattle.std.specs.List.{list_any}
use Rattle.std.specs.Option.{option_and_then, option_map, option_map_or}
use Rattle.std.proofs.Common.{sym, ◌∙◌, ap, arith, inl}
use Rattle.std.proofs.lemmas.Bool.{eq-eqb}
use Rattle.sect_base.specs.declared.limit.Cap.TheVariants.{Course as cap_course, Config as cap_config, Section as cap_section}
use Rattle.sect_catalog.specs.Catalogue.{find_offering, has_course, has_section as section_is_in}
use Rattle.sect_catalog.specs.Limits.{capped_course, with_limit}
use Rattle.sect_catalog.proofs.SearchLemmas.{any-parts}
use Rattle.sect_model.specs.Data.{Cap, Limit, CourseId, SectionId, OfferingId, OfferingRow}
use Rattle.sect_model.specs.declared.held.Waiting.{Waiting}
use Rattle.sect_model.specs.declared.change.Change.TheVariants.{Cap as new_cap}
use Rattle.sect_model.specs.World.{World, offering_of}
use Rattle.sect_model.specs.Change.{put_limit}
use Rattle.sect_model.specs.Fits.{Fits}
use Rattle.sect_model.specs.Kept.{KeptWorld, has_config}
use Rattle.sect_model.specs.Freer.{caps_wanted, has_cap, has_section, may_open}
use Rattle.sect_model.proofs.Members
use Rattle.sect_model.proofs.Members.{Member, not_both}
use Rattle.sect_model.proofs.CapChange.{any-map}
use Rattle.sect_model.proofs.FreerIndex.{its-offering}
use Rattle.sect_model.proofs.FreerRows.{config-row, one-row, section-row}
use Rattle.sect_space.specs.declared.back.Back.{Back}
use Rattle.sect_space.specs.Back.{back_of, cap_offering, mark_of}
use Rattle.sect_space.proofs.MarkLemmas.{marked}
use Rattle.sect_wait.specs.Marked.{concerns}
use Rattle.sect_machine.specs.Opening.{last_offering, sectioned_in}

-- ---- the last of a list

last-place : {X : Type 0} (xs : List X) (x : X) → length (xs ++ x ∷ []) ≡ suc (length (xs ++ x ∷ []) - 1)
last-place [] x = refl
last-place (y ∷ xs) x = omega arith

last-of : {X : Type 0} (xs : List X) (x : X) → slice_get (xs ++ x ∷ []) (length (xs ++ x ∷ []) - 1) ≡ Some x
last-of [] x = refl
last-of (y ∷ xs) x = ap (slice_get (y ∷ xs ++ x ∷ [])) (behind (length (xs ++ x ∷ [])) ∙ last-place xs x) ∙ last-of xs x
  where
    behind : (n : ℕ) → suc n - 1 ≡ n
    behind n = omega arith

pub last-none : {X : Type 0} (xs : List X) → length xs ≡ 0 → slice_get xs (length xs - 1) ≡ None
last-none [] h = refl
last-none (x ∷ xs) h = absurd (omega (arith, h))

-- ---- the offering of a limit

section-test : (o : OfferingRow) (id : SectionId) → has_section o id ≡ section_is_in o id
section-test o id =
    any-parts (λ s. s.id.0 == id.0) (λ p. p.sections) (flat_map (λ g. g.subparts) o.configs)
    ∙ any-parts (λ p. list_any (λ s. s.id.0 == id.0) p.sections) (λ g. g.subparts) o.configs

module _ (w : World) (k : KeptWorld w) (x : OfferingRow) (m : Member w.catalogue.rows x) where
  -- where a test finds no other row, it finds this one
  finds : (test : OfferingRow → Bool) → test x ≡ true → ((y : OfferingRow) → Member w.catalogue.rows y → test y ≡ true → x ≡ y) → option_map (λ o. o.id) (find test w.catalogue.rows) ≡ Some x.id
  finds test has alone =
      let y = Members.known (find test w.catalogue.rows) (Members.find-some test w.catalogue.rows x m has) in
      let f = Members.find-member test w.catalogue.rows y.0 y.1 in
      ap (option_map (λ o. o.id)) y.1 ∙ ap (λ o. Some o.id) (sym (alone y.0 f.0 f.1))

  limited : (cap : Cap) → has_cap cap x ≡ true → cap_offering w cap ≡ Some x.id
  limited (cap_course id) has = ap (option_map (λ o. o.id)) (its-offering w k x m id has)
  limited (cap_config id) has = finds (λ o. has_config o id) has (λ y n h. config-row w.catalogue.rows k.rows_pass x y id m n has h)
  limited (cap_section id) has =
      finds (λ o. section_is_in o id) (sym (section-test x id) ∙ has) (λ y n h. section-row w.catalogue.rows k.rows_pass x y id m n has (section-test y id ∙ h))

  -- the row by its id, once the limit is set
  row-after : (cap : Cap) (limit : Limit) → find_offering (map (with_limit cap limit) w.catalogue.rows) x.id ≡ Some (with_limit cap limit x)
  row-after cap limit =
      let y = Members.known (find_offering w.catalogue.rows x.id) (Members.find-some (λ o. o.id.0 == x.id.0) w.catalogue.rows x m (eq-eqb x.id.0 x.id.0 refl)) in
      let f = Members.find-member (λ o. o.id.0 == x.id.0) w.catalogue.rows y.0 y.1 in
      Members.find-map (λ o. o.id.0 == x.id.0) (with_limit cap limit) w.catalogue.rows (λ o. refl)
      ∙ ap (option_map (with_limit cap limit)) (y.1 ∙ ap Some (sym (one-row w.catalogue.rows k.rows_pass x y.0 m f.0 (0, x.id.0) (0, y.0.id.0) (inl refl) (inl refl) f.1)))

pub limit-closed : (w : World) (cap : Cap) (limit : Limit) (before after : List Back) (e : Waiting) → KeptWorld w → Fits w (new_cap cap limit)
    → after ≡ before ++ back_of w (new_cap cap limit) ∷ [] → concerns None (last_offering (put_limit w cap limit) after) e ≡ false → may_open w e (new_cap cap limit) ≡ false
limit-closed w cap limit before after e k fits recorded closed =
    Members.none-of (λ c. option_map_or (has_cap cap) (offering_of w c) false) e.want.courses (λ c m. by_row c m (offering_of w c) refl)
  where
    rows : OfferingId → Option OfferingRow
    rows id = find_offering (map (with_limit cap limit) w.catalogue.rows) id

    last : last_offering (put_limit w cap limit) after ≡ option_and_then rows (cap_offering w cap)
    last =
        ap (λ bs. option_and_then rows (option_and_then (λ b. (mark_of b).offering) (slice_get bs (length bs - 1)))) recorded
        ∙ ap (λ o. option_and_then rows (option_and_then (λ b. (mark_of b).offering) o)) (last-of before (back_of w (new_cap cap limit)))
        ∙ ap (λ x. option_and_then rows x.offering) (marked w (new_cap cap limit) fits)

    is-wanted : (x : OfferingRow) → Member w.catalogue.rows x → has_cap cap x ≡ true → list_any (has_course (with_limit cap limit x)) e.want.courses ≡ false
    is-wanted x m has =
        sym (ap (λ o. concerns None o e) (last ∙ ap (option_and_then rows) (limited w k x m cap has) ∙ row-after w k x m cap limit)) ∙ closed

    by_test : (c : CourseId) → Member e.want.courses c → (x : OfferingRow) → offering_of w c ≡ Some x → (b : Bool) → has_cap cap x ≡ b → b ≡ false
    by_test c m x its false has = refl
    by_test c m x its true has =
        let f = Members.find-member (λ o. has_course o c) w.catalogue.rows x its in
        absurd (not_both (has_course (with_limit cap limit x) c) (any-map (λ d. d.id.0 == c.0) (capped_course cap limit) x.courses ∙ f.1)
        (Members.none-at (has_course (with_limit cap limit x)) e.want.courses (is-wanted x f.0 has) c m))

    by_row : (c : CourseId) → Member e.want.courses c → (o : Option OfferingRow) → offering_of w c ≡ o → option_map_or (has_cap cap) o false ≡ false
    by_row c m None its = refl
    by_row c m (Some x) its = by_test c m x its (has_cap cap x) refl

-- a section stands in no offering that an entry wants which doesn't want the section's own
pub cancel-closed : (w : World) (id : SectionId) (e : Waiting) → KeptWorld w → concerns None (sectioned_in w id) e ≡ false → caps_wanted w e.want (cap_section id) ≡ false
cancel-closed w id e k closed = Members.none-of (λ c. option_map_or (has_cap (cap_section id)) (offering_of w c) false) e.want.courses (λ c m. by_row c m (offering_of w c) refl)
  where
    by_test : (c : CourseId) → Member e.want.courses c → (x : OfferingRow) → offering_of w c ≡ Some x → (b : Bool) → has_section x id ≡ b → b ≡ false
    by_test c m x its false has = refl
    by_test c m x its true has =
        let f = Members.find-member (λ o. has_course o c) w.catalogue.rows x its in
        let y = Members.known (find (λ o. section_is_in o id) w.catalogue.rows) (Members.find-some (λ o. section_is_in o id) w.catalogue.rows x f.0 (sym (section-test x id) ∙ has)) in
        let g = Members.find-member (λ o. section_is_in o id) w.catalogue.rows y.0 y.1 in
        let own : sectioned_in w id ≡ Some x = y.1 ∙ ap Some (sym (section-row w.catalogue.rows k.rows_pass x y.0 id f.0 g.0 has (section-test y.0 id ∙ g.1))) in
        absurd (not_both (has_course x c) f.1 (Members.none-at (has_course x) e.want.courses (sym (ap (λ o. concerns None o e) own) ∙ closed) c m))

    by_row : (c : CourseId) → Member e.want.courses c → (o : Option OfferingRow) → offering_of w c ≡ o → option_map_or (has_cap (cap_section id)) o false ≡ false
    by_row c m None its = refl
    by_row c m (Some x) its = by_test c m x its (has_section x id) refl
