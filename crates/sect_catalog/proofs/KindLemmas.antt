-- Each entry of a row has a kind that there is.
use Rattle.std.specs.Prelude.{◌≡◌, ℕ, suc, true, List, [], ◌∷◌, ◌++◌, refl}
use Rattle.std.specs.List.{list_all}
use Rattle.std.proofs.Common.{◌∙◌}
use Rattle.std.proofs.lemmas.List.Folds.{list_all-append}
use Rattle.sect_catalog.specs.declared.row.OfferingRow.{OfferingRow}
use Rattle.sect_catalog.specs.declared.row.ConfigRow.{ConfigRow}
use Rattle.sect_catalog.specs.declared.row.SubpartRow.{SubpartRow}
use Rattle.sect_catalog.specs.declared.place.Place.{Place}
use Rattle.sect_catalog.specs.Place.{Entry, placed, section_entry, subpart_entries, config_entries, course_entry, at_row, row_entries, has_kind}
use Rattle.sect_catalog.proofs.AppendLemmas.{both}

abbrev pub have_kinds : List Entry → Type 0
have_kinds es = list_all has_kind es ≡ true

kinds-append : (es fs : List Entry) → have_kinds es → have_kinds fs → have_kinds (es ++ fs)
kinds-append es fs h k = list_all-append has_kind es fs ∙ both (list_all has_kind es) (list_all has_kind fs) h k

kinds-placed : {X : Type 0} (f : ℕ → X → List Entry) → ((n : ℕ) (x : X) → have_kinds (f n x)) → (n : ℕ) (xs : List X) → have_kinds (placed f n xs)
kinds-placed f each n [] = refl
kinds-placed f each n (x ∷ xs) = kinds-append (f n x) (placed f (suc n) xs) (each n x) (kinds-placed f each (suc n) xs)

pub kinds-row : (n : ℕ) (o : OfferingRow) → have_kinds (row_entries n o)
kinds-row n o =
    kinds-append (placed (course_entry (at_row n)) 0 o.courses) (placed (config_entries (at_row n)) 0 o.configs)
    (kinds-placed (course_entry (at_row n)) (λ k c. refl) 0 o.courses) (kinds-placed (config_entries (at_row n)) config 0 o.configs)
  where
    subpart : (at : Place) (k : ℕ) (p : SubpartRow) → have_kinds (subpart_entries at k p)
    subpart at k p = kinds-placed (section_entry (record at { subpart = k })) (λ m s. refl) 0 p.sections

    config : (k : ℕ) (g : ConfigRow) → have_kinds (config_entries (at_row n) k g)
    config k g = kinds-placed (subpart_entries (record (at_row n) { config = k })) (subpart (record (at_row n) { config = k })) 0 g.subparts
