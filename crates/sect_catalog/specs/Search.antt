-- Searches of a row, part by part, and counts that stop at two.
use Rattle.std.specs.Prelude.{ℕ, min, not, Bool, ◌==◌, ◌+◌, false, List, [], ◌∷◌, length, map, filter, find, flat_map, Option}
use Rattle.std.specs.List.{list_any}
use Rattle.std.specs.Option.{option_or, option_map, option_map_or}
use Rattle.std.specs.Bool.{then_some}
use Rattle.sect_base.specs.Capped.{capped}
use Rattle.sect_catalog.specs.declared.row.OfferingRow.{OfferingRow}
use Rattle.sect_catalog.specs.declared.row.ConfigRow.{ConfigRow}
use Rattle.sect_catalog.specs.declared.row.SectionRow.{SectionRow}
use Rattle.sect_catalog.specs.declared.row.SubpartRow.{SubpartRow}
use Rattle.sect_catalog.specs.declared.row.CatalogFault.{CatalogFault}
use Rattle.sect_catalog.specs.declared.row.CatalogFault.TheVariants.{NoCourse, NoConfig, NoSubpart, NoSection, TooMany}
use Rattle.sect_catalog.specs.Catalogue.{sections_in}
use Rattle.sect_catalog.specs.Fault.{same_kind, is_empty, above}

-- how often the id stands in the list, and 2 where it is oftener
abbrev pub times_in : List (ℕ × ℕ) → ℕ × ℕ → ℕ
times_in ids id = min 2 (length (filter (same_kind id) ids))

-- whether the section names a parent that isn't in one of the subparts
abbrev pub lacks_parent : List SubpartRow → SectionRow → Bool
lacks_parent earlier s = option_map_or (λ parent. not (list_any (λ e. e.id.0 == parent.0) (sections_in earlier))) s.parent false

-- the first configuration that has no subpart, and the first subpart that has no section
abbrev pub bare_config : List ConfigRow → Option CatalogFault
bare_config configs = option_map (λ g. NoSubpart g.id.0) (find (λ g. is_empty g.subparts) configs)

abbrev pub bare_subpart : List SubpartRow → Option CatalogFault
bare_subpart subparts = option_map (λ p. NoSection p.id.0) (find (λ p. is_empty p.sections) subparts)

-- the first part that the row lacks
abbrev pub missing_part : OfferingRow → Option CatalogFault
missing_part o =
    option_or (then_some (is_empty o.courses) NoCourse)
    (option_or (then_some (is_empty o.configs) NoConfig)
    (option_or (bare_config o.configs) (bare_subpart (flat_map (λ g. g.subparts) o.configs))))

-- the first of the counts that is above the limit, as a fault
abbrev pub too_many_of : ℕ → List ℕ → Option CatalogFault
too_many_of limit counts = option_map (λ n. TooMany (capped n)) (above limit counts)

-- the first count of the row that is above its limit, beside so many sections
abbrev pub count_fault : ℕ → OfferingRow → Option CatalogFault
count_fault sections o =
    let subparts = flat_map (λ g. g.subparts) o.configs in
    option_or (too_many_of 10 (length o.courses ∷ []))
    (option_or (too_many_of 10 (length o.configs ∷ []))
    (option_or (too_many_of 6 (map (λ g. length g.subparts) o.configs))
    (option_or (too_many_of 200 (map (λ p. length p.sections) subparts))
    (option_or (too_many_of 8 (map (λ s. length s.meetings) (sections_in subparts)))
    (too_many_of 20000 ((sections + length (sections_in subparts)) ∷ []))))))
