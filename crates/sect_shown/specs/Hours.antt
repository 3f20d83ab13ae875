-- The times at which a student is taught.
use Rattle.std.specs.Prelude.{cond, List, [], map, flat_map}
use Rattle.sect_base.specs.declared.choice.Choice.{Choice}
use Rattle.sect_catalog.specs.declared.row.OfferingRow.{OfferingRow}
use Rattle.sect_catalog.specs.declared.row.ConfigRow.{ConfigRow}
use Rattle.sect_catalog.specs.declared.row.SubpartRow.{SubpartRow}
use Rattle.sect_catalog.specs.declared.row.SectionRow.{SectionRow}
use Rattle.sect_model.specs.Choice.{lists_section}
use Rattle.sect_shown.specs.declared.hour.Hour.{Hour}

-- the meetings of the section, where the choice takes it
abbrev pub choice_hours : SectionRow → Choice → List Hour
choice_hours s c =
    cond (lists_section c.sections s.id) (map (λ m. record { course = c.course; section = s.id; meeting = m }) s.meetings) []

-- the hours of the choices in a section
abbrev pub section_hours : List Choice → SectionRow → List Hour
section_hours held s = flat_map (choice_hours s) held

-- the hours of the choices in the sections of a subpart
abbrev pub subpart_hours : List Choice → SubpartRow → List Hour
subpart_hours held p = flat_map (section_hours held) p.sections

-- the hours of the choices in the sections of a configuration
abbrev pub config_hours : List Choice → ConfigRow → List Hour
config_hours held g = flat_map (subpart_hours held) g.subparts

-- the hours of the choices in the sections of an offering
abbrev pub offering_hours : List Choice → OfferingRow → List Hour
offering_hours held o = flat_map (config_hours held) o.configs

-- the hours of the choices in the sections of the offerings
abbrev pub hours_of : List OfferingRow → List Choice → List Hour
hours_of rows held = flat_map (offering_hours held) rows
