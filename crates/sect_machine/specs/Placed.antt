-- Where a listed section stands, found in its offering alone.
use Rattle.std.specs.Prelude.{Bool, false, ◌==◌, List, flat_map, find, Option}
use Rattle.std.specs.List.{list_all, list_any}
use Rattle.std.specs.Option.{option_and_then, option_map, option_map_or}
use Rattle.sect_reserve.specs.declared.row.Place.{Place}
use Rattle.sect_catalog.specs.Catalogue.{find_offering}
use Rattle.sect_model.specs.Data.{SectionId, OfferingId, OfferingRow, SubpartRow}
use Rattle.sect_model.specs.World.{World}
use Rattle.sect_model.specs.Kept.{has_place_in}

-- the subpart has the section
abbrev pub has_section : SectionId → SubpartRow → Bool
has_section s p = list_any (λ r. r.id.0 == s.0) p.sections

-- the subparts of an offering
abbrev pub subparts_of : OfferingRow → List SubpartRow
subparts_of o = flat_map (λ g. g.subparts) o.configs

-- the offering's subpart that has the section
abbrev pub subpart_in : OfferingRow → SectionId → Option SubpartRow
subpart_in o s = find (has_section s) (subparts_of o)

-- the section as a place of the offering
abbrev pub place_in : World → OfferingId → SectionId → Option Place
place_in w offering s = option_map (λ p. record { subpart = p.id; section = s }) (option_and_then (λ o. subpart_in o s) (find_offering w.catalogue.rows offering))

-- the offering is known, and each place is its own
abbrev pub own_places : World → OfferingId → List Place → Bool
own_places w offering places = option_map_or (λ o. list_all (has_place_in o) places) (find_offering w.catalogue.rows offering) false
