-- The place of a listed section is found in the offering alone.
use Rattle.std.specs.Prelude.{◌≡◌, Bool, true, false, ◌==◌, List, [], ◌∷◌, ◌++◌, flat_map, find, cond, Option, Some, None, refl}
use Rattle.std.specs.List.{list_all}
use Rattle.std.specs.Option.{option_map, option_map_or, option_and_then, option_to_list, option_or, is_some}
use Rattle.std.proofs.Common.{sym, ◌∙◌, ap, subst, append_assoc}
use Rattle.sect_reserve.specs.declared.row.Place.{Place}
use Rattle.sect_catalog.specs.Catalogue.{all_configs, all_subparts, subpart_of_section, find_offering}
use Rattle.sect_catalog.specs.Fault.{are_checked}
use Rattle.sect_model.specs.Data.{SectionId, OfferingId, OfferingRow, ConfigRow, SubpartRow, SubpartId}
use Rattle.sect_model.specs.World.{World}
use Rattle.sect_model.specs.Change.{place_of}
use Rattle.sect_model.specs.Kept.{has_place_in, is_place}
use Rattle.sect_model.proofs.Members
use Rattle.sect_model.proofs.Members.{Member, all-at, both, both-left, both-right, not_both, not_true}
use Rattle.sect_machine.specs.Placed.{has_section, subparts_of, subpart_in, place_in, own_places}
use Rattle.sect_model.proofs.PlaceLemmas.{found-subpart}

-- a subpart of the offering is one of the catalogue
in-all : (rows : List OfferingRow) (o : OfferingRow) → Member rows o → (p : SubpartRow) → Member (subparts_of o) p → Member (all_subparts rows) p
in-all rows o is_row p m =
    let g = Members.member-flat_map (λ g. g.subparts) o.configs p m in
    Members.member-of_flat_map (λ g. g.subparts) (all_configs rows) g.0 p (Members.member-of_flat_map (λ o. o.configs) rows o g.0 is_row g.1) g.2

-- the offering's subpart that has the section is the catalogue's
one-subpart : (rows : List OfferingRow) → are_checked rows ≡ true → (o : OfferingRow) → Member rows o → (s : SectionId) (p : SubpartRow) → subpart_in o s ≡ Some p → subpart_of_section rows s ≡ Some p
one-subpart rows checked o is_row s p e =
    let f = Members.find-member (has_section s) (subparts_of o) p e in
    let a = Members.any-at (λ r. r.id.0 == s.0) p.sections f.1 in
    found-subpart rows checked s p (in-all rows o is_row p f.0) a.0 a.1 a.2

-- an own place's section stands in one of the offering's subparts
own-found : (o : OfferingRow) (s : SectionId) (q : SubpartRow) → has_place_in o (record { subpart = q.id; section = s }) ≡ true → is_some (subpart_in o s) ≡ true
own-found o s q h =
    let p = Members.any-at (is_place (record { subpart = q.id; section = s })) (subparts_of o) h in
    Members.find-some (has_section s) (subparts_of o) p.0 p.1 (both-right (p.0.id.0 == q.id.0) _ p.2)

-- the places that a subpart makes of the section
abbrev places_at : SectionId → Option SubpartRow → List Place
places_at s x = option_to_list (option_map (λ p. record { subpart = p.id; section = s }) x)

place-with : (o : OfferingRow) (s : SectionId) (x y : Option SubpartRow) → ((p : SubpartRow) → x ≡ Some p → y ≡ Some p) → (x ≡ None → (q : SubpartRow) → y ≡ Some q → ⊥)
    → places_at s x ≡ places_at s y
place-with o s (Some p) y found none = ap (places_at s) (sym (found p refl))
place-with o s None None found none = refl
place-with o s None (Some q) found none = absurd (none refl q refl)

own-none : (w : World) (o : OfferingRow) (s : SectionId) → list_all (has_place_in o) (place_of w s) ≡ true → subpart_in o s ≡ None → (q : SubpartRow) → subpart_of_section w.catalogue.rows s ≡ Some q → ⊥
own-none w o s own none q e =
    let listed : list_all (has_place_in o) (places_at s (Some q)) ≡ true
    = subst (λ z. list_all (has_place_in o) (places_at s z) ≡ true) e own in
    not_both (is_some (subpart_in o s)) (own-found o s q (both-left _ true listed)) (ap is_some none)

-- the place of a section that is the offering's own
pub place-is : (w : World) → are_checked w.catalogue.rows ≡ true → (offering : OfferingId) (s : SectionId) → own_places w offering (place_of w s) ≡ true → option_to_list (place_in w offering s) ≡ place_of w s
place-is w checked offering s own = by_offering (find_offering w.catalogue.rows offering) refl own
  where
    by_offering : (x : Option OfferingRow) → find_offering w.catalogue.rows offering ≡ x → option_map_or (λ o. list_all (has_place_in o) (place_of w s)) x false ≡ true
        → places_at s (option_and_then (λ o. subpart_in o s) x) ≡ place_of w s
    by_offering None e h = absurd (not_both false h refl)
    by_offering (Some o) e h =
        place-with o s (subpart_in o s) (subpart_of_section w.catalogue.rows s)
        (one-subpart w.catalogue.rows checked o (Members.find-member (λ o. o.id.0 == offering.0) w.catalogue.rows o e).0 s)
        (own-none w o s h)

-- ---- one section after the other

all-append : {X : Type 0} (test : X → Bool) (xs ys : List X) → list_all test (xs ++ ys) ≡ true → (list_all test xs ≡ true) × (list_all test ys ≡ true)
all-append test [] ys h = (refl, h)
all-append test (x ∷ xs) ys h = let rest = all-append test xs ys (both-right (test x) _ h) in (both (test x) (list_all test xs) (both-left _ (list_all test (xs ++ ys)) h) rest.0, rest.1)

own-append : (w : World) (x : Option OfferingRow) (ps qs : List Place) → option_map_or (λ o. list_all (has_place_in o) (ps ++ qs)) x false ≡ true
    → (option_map_or (λ o. list_all (has_place_in o) ps) x false ≡ true) × (option_map_or (λ o. list_all (has_place_in o) qs) x false ≡ true)
own-append w None ps qs h = absurd (not_both false h refl)
own-append w (Some o) ps qs h = all-append (has_place_in o) ps qs h

-- the first of the sections, and the rest
pub own-first : (w : World) (offering : OfferingId) (s : SectionId) (rest : List SectionId) → own_places w offering (flat_map (place_of w) (s ∷ rest)) ≡ true
    → (own_places w offering (place_of w s) ≡ true) × (own_places w offering (flat_map (place_of w) rest) ≡ true)
own-first w offering s rest h = own-append w (find_offering w.catalogue.rows offering) (place_of w s) (flat_map (place_of w) rest) h

-- ---- the subparts of one configuration after the other

abbrev pub id_in : SectionId → List SubpartRow → Option SubpartId
id_in s ps = option_map (λ p. p.id) (find (has_section s) ps)

id-more : (s : SectionId) (b : Bool) (p : SubpartRow) (ps qs : List SubpartRow) → id_in s (ps ++ qs) ≡ option_or (id_in s ps) (id_in s qs)
    → option_map (λ p. p.id) (cond b (Some p) (find (has_section s) (ps ++ qs))) ≡ option_or (option_map (λ p. p.id) (cond b (Some p) (find (has_section s) ps))) (id_in s qs)
id-more s true p ps qs h = refl
id-more s false p ps qs h = h

id-append : (s : SectionId) (ps qs : List SubpartRow) → id_in s (ps ++ qs) ≡ option_or (id_in s ps) (id_in s qs)
id-append s [] qs = refl
id-append s (p ∷ ps) qs = id-more s (has_section s p) p ps qs (id-append s ps qs)

-- the subparts of the configurations
abbrev pub subparts_in : List ConfigRow → List SubpartRow
subparts_in gs = flat_map (λ g. g.subparts) gs

-- where the next configuration has it
pub id-found : (s : SectionId) (g : ConfigRow) (gs : List ConfigRow) (n : SubpartId) → id_in s g.subparts ≡ Some n → id_in s (subparts_in (g ∷ gs)) ≡ Some n
id-found s g gs n is = id-append s g.subparts (subparts_in gs) ∙ ap (λ x. option_or x (id_in s (subparts_in gs))) is

-- where it hasn't
pub id-passed : (s : SectionId) (g : ConfigRow) (gs : List ConfigRow) → id_in s g.subparts ≡ None → id_in s (subparts_in (g ∷ gs)) ≡ id_in s (subparts_in gs)
id-passed s g gs is = id-append s g.subparts (subparts_in gs) ∙ ap (λ x. option_or x (id_in s (subparts_in gs))) is

-- ---- the places of one section after the other

-- the places of the sections that are left are the offering's own, and lead behind those so far to all
pub record PlacesOn (w : World) (offering : OfferingId) (all : List SectionId) (so_far : List Place) (rest : List SectionId) : Type 0 where
  pub led : so_far ++ flat_map (place_of w) rest ≡ flat_map (place_of w) all
  pub own : own_places w offering (flat_map (place_of w) rest) ≡ true

pub places-more : (w : World) → are_checked w.catalogue.rows ≡ true → (offering : OfferingId) (all : List SectionId) (so_far now : List Place) (s : SectionId) (rest : List SectionId)
    → PlacesOn w offering all so_far (s ∷ rest) → now ≡ so_far ++ option_to_list (place_in w offering s) → PlacesOn w offering all now rest
places-more w checked offering all so_far now s rest on is =
    let own = own-first w offering s rest on.own in
    let place : option_to_list (place_in w offering s) ≡ place_of w s = place-is w checked offering s own.0 in record {
      led = ap (λ ps. ps ++ flat_map (place_of w) rest) (is ∙ ap (λ ps. so_far ++ ps) place) ∙ append_assoc so_far (place_of w s) (flat_map (place_of w) rest) ∙ on.led;
      own = own.1;
    }
