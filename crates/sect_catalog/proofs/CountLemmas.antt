-- The first count above a limit, part by part; and the faults in order.
use Rattle.std.specs.Prelude.{◌≡◌, ℕ, ◌+◌, nat_lt, List, [], ◌∷◌, ◌++◌, length, map, flat_map, Option, Some, None, refl}
use Rattle.std.specs.Option.{option_or, option_map}
use Rattle.std.specs.Bool.{then_some}
use Rattle.std.proofs.Common.{◌∙◌, ap}
use Rattle.std.proofs.lemmas.Grind.{flat_map-append}
use Rattle.std.proofs.lemmas.List.Folds.{find-append}
use Rattle.sect_base.specs.Capped.{capped}
use Rattle.sect_catalog.specs.declared.row.OfferingRow.{OfferingRow}
use Rattle.sect_catalog.specs.declared.row.ConfigRow.{ConfigRow}
use Rattle.sect_catalog.specs.declared.row.SubpartRow.{SubpartRow}
use Rattle.sect_catalog.specs.declared.row.CatalogFault.{CatalogFault}
use Rattle.sect_catalog.specs.declared.row.CatalogFault.TheVariants.{Known, NoCourse, NoConfig, BadParent, TooMany}
use Rattle.sect_catalog.specs.Catalogue.{Catalogue, sections_in, all_sections}
use Rattle.sect_catalog.specs.Fault.{known_id, is_empty, bad_parent, above, too_many, fault_of}
use Rattle.sect_catalog.specs.Search.{too_many_of, count_fault, missing_part, bare_config, bare_subpart}

map-append : {X Y : Type 0} (f : X → Y) (xs ys : List X) → map f (xs ++ ys) ≡ map f xs ++ map f ys
map-append f [] ys = refl
map-append f (x ∷ xs) ys = ap (λ zs. f x ∷ zs) (map-append f xs ys)

pub map-or : {X Y : Type 0} (f : X → Y) (a b : Option X) → option_map f (option_or a b) ≡ option_or (option_map f a) (option_map f b)
map-or f None b = refl
map-or f (Some x) b = refl

or-or : {X : Type 0} (a b c : Option X) → option_or (option_or a b) c ≡ option_or a (option_or b c)
or-or None b c = refl
or-or (Some x) b c = refl

counts-append : {X : Type 0} (limit : ℕ) (count : X → ℕ) (xs ys : List X) → too_many_of limit (map count (xs ++ ys)) ≡ option_or (too_many_of limit (map count xs)) (too_many_of limit (map count ys))
counts-append limit count xs ys =
    ap (too_many_of limit) (map-append count xs ys) ∙ ap (option_map (λ n. TooMany (capped n))) (find-append (nat_lt limit) (map count xs) (map count ys))
    ∙ map-or (λ n. TooMany (capped n)) (above limit (map count xs)) (above limit (map count ys))

pub counts-parts : {X Y : Type 0} (limit : ℕ) (count : Y → ℕ) (f : X → List Y) (x : X) (xs : List X)
    → too_many_of limit (map count (flat_map f (x ∷ xs))) ≡ option_or (too_many_of limit (map count (f x))) (too_many_of limit (map count (flat_map f xs)))
counts-parts limit count f x xs = counts-append limit count (f x) (flat_map f xs)

pub meetings-parts : (x : ConfigRow) (xs : List ConfigRow)
    → too_many_of 8 (map (λ s. length s.meetings) (sections_in (flat_map (λ g. g.subparts) (x ∷ xs))))
    ≡ option_or (too_many_of 8 (map (λ s. length s.meetings) (sections_in x.subparts))) (too_many_of 8 (map (λ s. length s.meetings) (sections_in (flat_map (λ g. g.subparts) xs))))
meetings-parts x xs =
    ap (λ ss. too_many_of 8 (map (λ s. length s.meetings) ss)) (flat_map-append (λ (p : SubpartRow). p.sections) x.subparts (flat_map (λ g. g.subparts) xs))
    ∙ counts-append 8 (λ s. length s.meetings) (sections_in x.subparts) (sections_in (flat_map (λ g. g.subparts) xs))

-- the counts of a row against their limits are the last fault
counts-last : (c : Catalogue) (o : OfferingRow) → option_map (λ n. TooMany (capped n)) (too_many c o) ≡ count_fault (length (all_sections c.rows)) o
counts-last c o =
    six (above 10 (length o.courses ∷ [])) (above 10 (length o.configs ∷ [])) (above 6 (map (λ g. length g.subparts) o.configs))
    (above 200 (map (λ p. length p.sections) (flat_map (λ g. g.subparts) o.configs)))
    (above 8 (map (λ s. length s.meetings) (sections_in (flat_map (λ g. g.subparts) o.configs))))
    (above 20000 ((length (all_sections c.rows) + length (sections_in (flat_map (λ g. g.subparts) o.configs))) ∷ []))
  where
    six : (p q r s t u : Option ℕ) → option_map (λ n. TooMany (capped n)) (option_or p (option_or q (option_or r (option_or s (option_or t u)))))
        ≡ option_or (option_map (λ n. TooMany (capped n)) p) (option_or (option_map (λ n. TooMany (capped n)) q) (option_or (option_map (λ n. TooMany (capped n)) r)
        (option_or (option_map (λ n. TooMany (capped n)) s) (option_or (option_map (λ n. TooMany (capped n)) t) (option_map (λ n. TooMany (capped n)) u)))))
    six (Some n) q r s t u = refl
    six None (Some n) r s t u = refl
    six None None (Some n) s t u = refl
    six None None None (Some n) t u = refl
    six None None None None (Some n) u = refl
    six None None None None None u = refl

-- the faults in four steps
pub fault-parts : (c : Catalogue) (o : OfferingRow)
    → fault_of c o ≡ option_or (option_map Known (known_id c o)) (option_or (missing_part o) (option_or (option_map BadParent (bad_parent o.configs)) (count_fault (length (all_sections c.rows)) o)))
fault-parts c o =
    ap (λ last. option_or (option_map Known (known_id c o)) (option_or (then_some (is_empty o.courses) NoCourse) (option_or (then_some (is_empty o.configs) NoConfig)
    (option_or (bare_config o.configs) (option_or (bare_subpart (flat_map (λ g. g.subparts) o.configs)) (option_or (option_map BadParent (bad_parent o.configs)) last)))))) (counts-last c o)
    ∙ ap (option_or (option_map Known (known_id c o)))
    (four (then_some (is_empty o.courses) NoCourse) (then_some (is_empty o.configs) NoConfig) (bare_config o.configs) (bare_subpart (flat_map (λ g. g.subparts) o.configs))
    (option_or (option_map BadParent (bad_parent o.configs)) (count_fault (length (all_sections c.rows)) o)))
  where
    four : (p q r s t : Option CatalogFault) → option_or p (option_or q (option_or r (option_or s t))) ≡ option_or (option_or p (option_or q (option_or r s))) t
    four (Some n) q r s t = refl
    four None (Some n) r s t = refl
    four None None (Some n) s t = refl
    four None None None s t = refl
