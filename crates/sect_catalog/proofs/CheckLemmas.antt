-- The index tells which ids are known.
use Rattle.std.specs.Prelude.{◌≡◌, ℕ, suc, ◌||◌, List, [], ◌∷◌, ◌++◌, map, find, flat_map, refl}
use Rattle.std.specs.List.{list_any}
use Rattle.std.specs.Option.{option_map, is_some}
use Rattle.std.proofs.Common.{◌∙◌, ap}
use Rattle.std.proofs.lemmas.Map.Made.{is_some-lookup}
use Rattle.sect_catalog.specs.declared.row.OfferingRow.{OfferingRow}
use Rattle.sect_catalog.specs.declared.row.ConfigRow.{ConfigRow}
use Rattle.sect_catalog.specs.declared.row.SubpartRow.{SubpartRow}
use Rattle.sect_catalog.specs.Catalogue.{Catalogue}
use Rattle.sect_catalog.specs.declared.place.Place.{Place}
use Rattle.sect_catalog.specs.Fault.{same_kind, subpart_ids, config_ids, row_ids, stands_twice, known_id}
use Rattle.sect_catalog.specs.declared.index.Index.{Index}
use Rattle.sect_catalog.specs.Place.{Entry, placed, section_entry, subpart_entries, config_entries, course_entry, at_row, row_entries, all_entries, place_of, IsIndex, is_taken}

pub map-append : {X Y : Type 0} (f : X → Y) (xs ys : List X) → map f (xs ++ ys) ≡ map f xs ++ map f ys
map-append f [] ys = refl
map-append f (x ∷ xs) ys = ap (λ zs. f x ∷ zs) (map-append f xs ys)

abbrev pub ids_of : List Entry → List (ℕ × ℕ)
ids_of es = map (λ e. e.0) es

ids-placed : {X : Type 0} (f : ℕ → X → List Entry) (ids : X → List (ℕ × ℕ)) → ((n : ℕ) (x : X) → ids_of (f n x) ≡ ids x) → (n : ℕ) (xs : List X) → ids_of (placed f n xs) ≡ flat_map ids xs
ids-placed f ids same n [] = refl
ids-placed f ids same n (x ∷ xs) = map-append (λ (e : Entry). e.0) (f n x) (placed f (suc n) xs) ∙ (λ i. same n x i ++ ids-placed f ids same (suc n) xs i)

ids-each : {X : Type 0} (f : ℕ → X → List Entry) (id : X → ℕ × ℕ) → ((n : ℕ) (x : X) → ids_of (f n x) ≡ id x ∷ []) → (n : ℕ) (xs : List X) → ids_of (placed f n xs) ≡ map id xs
ids-each f id same n [] = refl
ids-each f id same n (x ∷ xs) = map-append (λ (e : Entry). e.0) (f n x) (placed f (suc n) xs) ∙ (λ i. same n x i ++ ids-each f id same (suc n) xs i)

ids-subpart : (at : Place) (n : ℕ) (p : SubpartRow) → ids_of (subpart_entries at n p) ≡ subpart_ids p
ids-subpart at n p = ap (λ ids. (3, p.id.0) ∷ ids) (ids-each (section_entry (record at { subpart = n })) (λ s. (4, s.id.0)) (λ n s. refl) 0 p.sections)

ids-config : (at : Place) (n : ℕ) (g : ConfigRow) → ids_of (config_entries at n g) ≡ config_ids g
ids-config at n g = ap (λ ids. (2, g.id.0) ∷ ids) (ids-placed (subpart_entries (record at { config = n })) subpart_ids (ids-subpart (record at { config = n })) 0 g.subparts)

pub ids-row : (n : ℕ) (o : OfferingRow) → ids_of (row_entries n o) ≡ row_ids o
ids-row n o =
    ap (λ ids. (0, o.id.0) ∷ ids)
    (map-append (λ (e : Entry). e.0) (placed (course_entry (at_row n)) 0 o.courses) (placed (config_entries (at_row n)) 0 o.configs)
    ∙ (λ i. ids-each (course_entry (at_row n)) (λ c. (1, c.id.0)) (λ n c. refl) 0 o.courses i ++ ids-placed (config_entries (at_row n)) config_ids (ids-config (at_row n)) 0 o.configs i))

pub ids-all : (rows : List OfferingRow) → ids_of (all_entries rows) ≡ flat_map row_ids rows
ids-all rows = ids-placed row_entries row_ids ids-row 0 rows

-- the index has exactly the ids of the rows
pub indexed : (index : Index) (rows : List OfferingRow) → IsIndex index rows → (id : ℕ × ℕ) → is_some (place_of index id) ≡ list_any (same_kind id) (flat_map row_ids rows)
indexed index rows is id = ap is_some (is id) ∙ is_some-lookup (same_kind id) (all_entries rows) ∙ ap (list_any (same_kind id)) (ids-all rows)

pub known-by : (index : Index) (c : Catalogue) → IsIndex index c.rows → (o : OfferingRow) → option_map (λ id. id.1) (find (is_taken index o) (row_ids o)) ≡ known_id c o
known-by index c is o = λ i. option_map (λ id. id.1) (find (λ id. indexed index c.rows is id i || stands_twice (row_ids o) id) (row_ids o))
