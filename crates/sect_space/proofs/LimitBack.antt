-- A limit changed and changed back.
use Rattle.std.specs.Prelude.{◌≡◌, ℕ, zero, suc, Bool, true, false, ◌==◌, cond, List, [], ◌∷◌, map, slice_get, Option, Some, None, refl}
use Rattle.std.specs.Option.{option_map, option_and_then}
use Rattle.std.proofs.Common.{sym, ◌∙◌, ap}
use Rattle.sect_base.specs.declared.limit.Cap.{Cap}
use Rattle.sect_base.specs.declared.limit.Cap.TheVariants.{Course as cap_course, Config as cap_config, Section as cap_section}
use Rattle.sect_base.specs.declared.limit.Limit.{Limit}
use Rattle.sect_catalog.specs.declared.row.OfferingRow.{OfferingRow}
use Rattle.sect_catalog.specs.declared.row.CourseRow.{CourseRow}
use Rattle.sect_catalog.specs.declared.row.ConfigRow.{ConfigRow}
use Rattle.sect_catalog.specs.declared.row.SubpartRow.{SubpartRow}
use Rattle.sect_catalog.specs.declared.row.SectionRow.{SectionRow}
use Rattle.sect_catalog.specs.declared.place.Place.{Place}
use Rattle.sect_catalog.specs.Catalogue.{find_course, find_config, find_section}
use Rattle.sect_catalog.specs.Fault.{are_checked}
use Rattle.sect_catalog.specs.Limits.{course_limit, config_limit, section_limit, capped_course, capped_config, capped_subpart, capped_section, with_limit, limit_in, change_at, put_course, put_config, put_section, put_in_config, put_in_subpart}
use Rattle.sect_catalog.specs.Place.{all_entries, place_in, course_at, config_at, section_at}
use Rattle.sect_catalog.proofs.LookupLemmas.{section-found}
use Rattle.sect_catalog.proofs.LookupMore.{course-found, config-found}
use Rattle.sect_catalog.proofs.WriteMore.{written}

-- ---- the later limit stands

map-twice : {X : Type 0} (f g h : X → X) → ((x : X) → g (f x) ≡ h x) → (xs : List X) → map g (map f xs) ≡ map h xs
map-twice f g h same [] = refl
map-twice f g h same (x ∷ xs) = λ i. same x i ∷ map-twice f g h same xs i

twice : (b : Bool) (new old was : Limit) → cond b old (cond b new was) ≡ cond b old was
twice true new old was = refl
twice false new old was = refl

course-twice : (cap : Cap) (new old : Limit) (c : CourseRow) → course_limit cap old (capped_course cap new c) ≡ course_limit cap old c
course-twice (cap_course id) new old c = twice (c.id.0 == id.0) new old c.limit
course-twice (cap_config id) new old c = refl
course-twice (cap_section id) new old c = refl

config-twice : (cap : Cap) (new old : Limit) (g : ConfigRow) → config_limit cap old (capped_config cap new g) ≡ config_limit cap old g
config-twice (cap_course id) new old g = refl
config-twice (cap_config id) new old g = twice (g.id.0 == id.0) new old g.limit
config-twice (cap_section id) new old g = refl

section-twice : (cap : Cap) (new old : Limit) (s : SectionRow) → section_limit cap old (capped_section cap new s) ≡ section_limit cap old s
section-twice (cap_course id) new old s = refl
section-twice (cap_config id) new old s = refl
section-twice (cap_section id) new old s = twice (s.id.0 == id.0) new old s.limit

with-twice : (cap : Cap) (new old : Limit) (o : OfferingRow) → with_limit cap old (with_limit cap new o) ≡ with_limit cap old o
with-twice cap new old o = λ i. record o {
  courses = map-twice (capped_course cap new) (capped_course cap old) (capped_course cap old) (λ c. λ j. record c { limit = course-twice cap new old c j }) o.courses i;
  configs = map-twice (capped_config cap new) (capped_config cap old) (capped_config cap old) config o.configs i;
}
  where
    section : (s : SectionRow) → capped_section cap old (capped_section cap new s) ≡ capped_section cap old s
    section s = λ j. record s { limit = section-twice cap new old s j }

    subpart : (p : SubpartRow) → capped_subpart cap old (capped_subpart cap new p) ≡ capped_subpart cap old p
    subpart p = λ j. record p { sections = map-twice (capped_section cap new) (capped_section cap old) (capped_section cap old) section p.sections j }

    config : (g : ConfigRow) → capped_config cap old (capped_config cap new g) ≡ capped_config cap old g
    config g = λ j. record g {
      limit = config-twice cap new old g j;
      subparts = map-twice (capped_subpart cap new) (capped_subpart cap old) (capped_subpart cap old) subpart g.subparts j;
    }

-- ---- the limit that stands, written again

at-same : {X : Type 0} (n : ℕ) (f : X → X) (xs : List X) → ((x : X) → slice_get xs n ≡ Some x → f x ≡ x) → change_at n f xs ≡ xs
at-same n f [] h = refl
at-same zero f (x ∷ xs) h = λ i. h x refl i ∷ xs
at-same (suc n) f (x ∷ xs) h = ap (λ ys. x ∷ ys) (at-same n f xs h)

some-same : {X : Type 0} (x y : X) → Some x ≡ Some y → x ≡ y
some-same x y e = cc

-- the row at the place holds the limit
course-again : (rows : List OfferingRow) (at : Place) (c : CourseRow) → option_map (λ (found : OfferingRow × CourseRow). found.1) (course_at rows at) ≡ Some c → change_at at.row (put_course c.limit at) rows ≡ rows
course-again rows at c e =
    at-same at.row (put_course c.limit at) rows (λ o f. λ i. record o {
      courses = at-same at.config (λ x. record x { limit = c.limit }) o.courses (λ x g. λ j. record x { limit = (own o f x g j).limit }) i;
    })
  where
    own : (o : OfferingRow) → slice_get rows at.row ≡ Some o → (x : CourseRow) → slice_get o.courses at.config ≡ Some x → c ≡ x
    own o f x g =
        some-same c x (sym e
        ∙ ap (λ r. option_map (λ (found : OfferingRow × CourseRow). found.1) (option_and_then (λ o. option_map (λ c. (o, c)) (slice_get o.courses at.config)) r)) f
        ∙ ap (λ r. option_map (λ (found : OfferingRow × CourseRow). found.1) (option_map (λ c. (o, c)) r)) g)

config-again : (rows : List OfferingRow) (at : Place) (c : ConfigRow) → config_at rows at ≡ Some c → change_at at.row (put_config c.limit at) rows ≡ rows
config-again rows at c e =
    at-same at.row (put_config c.limit at) rows (λ o f. λ i. record o {
      configs = at-same at.config (λ x. record x { limit = c.limit }) o.configs (λ x g. λ j. record x { limit = (own o f x g j).limit }) i;
    })
  where
    own : (o : OfferingRow) → slice_get rows at.row ≡ Some o → (x : ConfigRow) → slice_get o.configs at.config ≡ Some x → c ≡ x
    own o f x g = some-same c x (sym e ∙ ap (option_and_then (λ o. slice_get o.configs at.config)) f ∙ g)

section-again : (rows : List OfferingRow) (at : Place) (s : SectionRow) → section_at rows at ≡ Some s → change_at at.row (put_section s.limit at) rows ≡ rows
section-again rows at s e =
    at-same at.row (put_section s.limit at) rows (λ o f. λ i. record o {
      configs = at-same at.config (put_in_config s.limit at) o.configs (λ g h. λ j. record g {
        subparts = at-same at.subpart (put_in_subpart s.limit at) g.subparts (λ p k. λ l. record p {
          sections = at-same at.section (λ x. record x { limit = s.limit }) p.sections (λ x m. λ n. record x { limit = (own o f g h p k x m n).limit }) l;
        }) j;
      }) i;
    })
  where
    own : (o : OfferingRow) → slice_get rows at.row ≡ Some o → (g : ConfigRow) → slice_get o.configs at.config ≡ Some g → (p : SubpartRow) → slice_get g.subparts at.subpart ≡ Some p
        → (x : SectionRow) → slice_get p.sections at.section ≡ Some x → s ≡ x
    own o f g h p k x m = some-same s x (sym e
        ∙ ap (λ r. option_and_then (λ p. slice_get p.sections at.section) (option_and_then (λ g. slice_get g.subparts at.subpart) (option_and_then (λ o. slice_get o.configs at.config) r))) f
        ∙ ap (λ r. option_and_then (λ p. slice_get p.sections at.section) (option_and_then (λ (g : ConfigRow). slice_get g.subparts at.subpart) r)) h
        ∙ ap (λ r. option_and_then (λ (p : SubpartRow). slice_get p.sections at.section) r) k
        ∙ m)

-- the place of an id, where a row with it is found
placed : {X : Type 0} (at : Place → Option X) (o : Option Place) (x : X) → option_and_then at o ≡ Some x → (p : Place) × (o ≡ Some p) × (at p ≡ Some x)
placed at None x e = cc
placed at (Some p) x e = (p, refl, e)

map-some : {X Y : Type 0} (f : X → Y) (o : Option X) (y : Y) → option_map f o ≡ Some y → (x : X) × (o ≡ Some x) × (f x ≡ y)
map-some f None y e = cc
map-some f (Some x) y e = (x, refl, some-same (f x) y e)

-- the limit that stands put in its place
same-limit : (rows : List OfferingRow) (cap : Cap) (limit : Limit) → are_checked rows ≡ true → limit_in rows cap ≡ Some limit → map (with_limit cap limit) rows ≡ rows
same-limit rows (cap_course id) limit h e =
    let c = map-some (λ c. c.limit) (find_course rows id) limit e in
    let f = map-some (λ (found : OfferingRow × CourseRow). found.1) (option_and_then (course_at rows) (place_in (all_entries rows) (1, id.0))) c.0 (course-found id.0 rows ∙ c.1) in
    let p = placed (course_at rows) (place_in (all_entries rows) (1, id.0)) f.0 f.1 in
    sym (written (cap_course id) limit rows p.0 h p.1) ∙ (λ i. change_at p.0.row (put_course (sym c.2 i) p.0) rows)
    ∙ course-again rows p.0 c.0 (ap (option_map (λ (found : OfferingRow × CourseRow). found.1)) p.2 ∙ ap Some f.2)
same-limit rows (cap_config id) limit h e =
    let c = map-some (λ g. g.limit) (find_config rows id) limit e in
    let p = placed (config_at rows) (place_in (all_entries rows) (2, id.0)) c.0 (config-found id.0 rows ∙ c.1) in
    sym (written (cap_config id) limit rows p.0 h p.1) ∙ (λ i. change_at p.0.row (put_config (sym c.2 i) p.0) rows) ∙ config-again rows p.0 c.0 p.2
same-limit rows (cap_section id) limit h e =
    let s = map-some (λ s. s.limit) (find_section rows id) limit e in
    let p = placed (section_at rows) (place_in (all_entries rows) (4, id.0)) s.0 (section-found id.0 rows ∙ s.1) in
    sym (written (cap_section id) limit rows p.0 h p.1) ∙ (λ i. change_at p.0.row (put_section (sym s.2 i) p.0) rows) ∙ section-again rows p.0 s.0 p.2

-- another limit, and then the old one
pub limit-back : (rows : List OfferingRow) (cap : Cap) (new old : Limit) → are_checked rows ≡ true → limit_in rows cap ≡ Some old → map (with_limit cap old) (map (with_limit cap new) rows) ≡ rows
limit-back rows cap new old h e = map-twice (with_limit cap new) (with_limit cap old) (with_limit cap old) (with-twice cap new old) rows ∙ same-limit rows cap old h e
