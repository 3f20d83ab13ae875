-- The offering of a section or a configuration: what the index tells is what a look-up by id finds.
use Rattle.std.specs.Prelude.{◌≡◌, ℕ, Bool, true, false, ◌==◌, cond, List, [], ◌∷◌, find, flat_map, Option, Some, None, refl, slice_get}
use Rattle.std.specs.List.{list_any}
use Rattle.std.specs.Option.{option_and_then, is_some}
use Rattle.std.proofs.Common.{sym, ◌∙◌, ap}
use Rattle.sect_catalog.specs.declared.row.OfferingRow.{OfferingRow}
use Rattle.sect_catalog.specs.declared.row.ConfigRow.{ConfigRow}
use Rattle.sect_catalog.specs.declared.row.SubpartRow.{SubpartRow}
use Rattle.sect_catalog.specs.declared.row.SectionRow.{SectionRow}
use Rattle.sect_catalog.specs.declared.place.Place.{Place}
use Rattle.sect_catalog.specs.Catalogue.{sections_in}
use Rattle.sect_catalog.specs.Place.{row_entries, all_entries, place_in}
use Rattle.sect_catalog.proofs.LookupLemmas.{flat-self, then-self, found-level, row-known}
use Rattle.sect_catalog.proofs.LookupMore.{row-config-known, is-among, stands-in-row}
use Rattle.sect_catalog.proofs.SearchLemmas.{any-parts}

-- what has a place is the row itself
own : (o : OfferingRow) (p : Option Place) (b : Bool) → is_some p ≡ is_some (cond {A = Option OfferingRow} b (Some o) None)
    → option_and_then (λ at. Some o) p ≡ cond {A = Option OfferingRow} b (Some o) None
own o None true h = cc
own o None false h = refl
own o (Some at) true h = refl
own o (Some at) false h = cc

-- a row that an id's place tells is the first one with entries of the id
row-found : (id : ℕ) (key : ℕ × ℕ) (test : OfferingRow → Bool) → ((n : ℕ) (o : OfferingRow) → is_some (place_in (row_entries n o) key) ≡ is_some (find test (o ∷ []))) → (rows : List OfferingRow)
    → option_and_then (λ at. slice_get rows at.row) (place_in (all_entries rows) key) ≡ find test rows
row-found id key test known rows =
    (λ i. option_and_then (λ at. sym (then-self (slice_get rows at.row)) i) (place_in (all_entries rows) key))
    ∙ found-level key test row_entries (λ o. o ∷ []) known (λ o at. Some o) (λ at. at.row) (λ n o. own o (place_in (row_entries n o) key) (test o) (known n o)) (stands-in-row id) rows
    ∙ ap (find test) (flat-self rows)

module _ (id : ℕ) where
  abbrev is_section : SectionRow → Bool
  is_section s = s.id.0 == id

  abbrev has_section : OfferingRow → Bool
  has_section o = list_any (λ g. list_any (λ p. list_any is_section p.sections) g.subparts) o.configs

  any-in : (o : OfferingRow) → list_any is_section (flat_map (λ g. sections_in g.subparts) o.configs) ≡ has_section o
  any-in o =
      any-parts is_section (λ (g : ConfigRow). sections_in g.subparts) o.configs
      ∙ (λ i. list_any (λ (g : ConfigRow). any-parts is_section (λ (p : SubpartRow). p.sections) g.subparts i) o.configs)

  pub section-offering-found : (rows : List OfferingRow) → option_and_then (λ at. slice_get rows at.row) (place_in (all_entries rows) (4, id)) ≡ find has_section rows
  section-offering-found rows =
      row-found id (4, id) has_section
      (λ n o. row-known id n o ∙ is-among id is_section (flat_map (λ g. sections_in g.subparts) o.configs) o ∙ ap (λ b. is_some (cond {A = Option OfferingRow} b (Some o) None)) (any-in o)) rows

  abbrev is_config : ConfigRow → Bool
  is_config g = g.id.0 == id

  pub config-offering-found : (rows : List OfferingRow) → option_and_then (λ at. slice_get rows at.row) (place_in (all_entries rows) (2, id)) ≡ find (λ o. list_any is_config o.configs) rows
  config-offering-found rows =
      row-found id (2, id) (λ o. list_any is_config o.configs) (λ n o. row-config-known id n o ∙ is-among id is_config o.configs o) rows
