-- Another limit for a course, a configuration or a section.
use Rattle.std.specs.Prelude.{ℕ, ◌==◌, cond, suc, zero, List, [], ◌∷◌, map, Option}
use Rattle.std.specs.Option.{option_map}
use Rattle.sect_base.specs.declared.limit.Cap.{Cap}
use Rattle.sect_base.specs.declared.limit.Cap.TheVariants.{Course as cap_course, Config as cap_config, Section as cap_section}
use Rattle.sect_base.specs.declared.limit.Limit.{Limit}
use Rattle.sect_catalog.specs.declared.row.OfferingRow.{OfferingRow}
use Rattle.sect_catalog.specs.declared.row.CourseRow.{CourseRow}
use Rattle.sect_catalog.specs.declared.row.ConfigRow.{ConfigRow}
use Rattle.sect_catalog.specs.declared.row.SubpartRow.{SubpartRow}
use Rattle.sect_catalog.specs.declared.row.SectionRow.{SectionRow}
use Rattle.sect_catalog.specs.declared.place.Place.{Place}
use Rattle.sect_catalog.specs.Catalogue.{find_course, find_config, find_section}

-- the limit that each row has after the change
abbrev pub course_limit : Cap → Limit → CourseRow → Limit
course_limit (cap_course id) limit c = cond (c.id.0 == id.0) limit c.limit
course_limit (cap_config id) limit c = c.limit
course_limit (cap_section id) limit c = c.limit

abbrev pub config_limit : Cap → Limit → ConfigRow → Limit
config_limit (cap_course id) limit g = g.limit
config_limit (cap_config id) limit g = cond (g.id.0 == id.0) limit g.limit
config_limit (cap_section id) limit g = g.limit

abbrev pub section_limit : Cap → Limit → SectionRow → Limit
section_limit (cap_course id) limit s = s.limit
section_limit (cap_config id) limit s = s.limit
section_limit (cap_section id) limit s = cond (s.id.0 == id.0) limit s.limit

abbrev pub capped_course : Cap → Limit → CourseRow → CourseRow
capped_course cap limit c = record c { limit = course_limit cap limit c }

abbrev pub capped_section : Cap → Limit → SectionRow → SectionRow
capped_section cap limit s = record s { limit = section_limit cap limit s }

abbrev pub capped_subpart : Cap → Limit → SubpartRow → SubpartRow
capped_subpart cap limit p = record p { sections = map (capped_section cap limit) p.sections }

abbrev pub capped_config : Cap → Limit → ConfigRow → ConfigRow
capped_config cap limit g = record g { limit = config_limit cap limit g; subparts = map (capped_subpart cap limit) g.subparts }

-- the offering with a limit in place of the old one
abbrev pub with_limit : Cap → Limit → OfferingRow → OfferingRow
with_limit cap limit o = record o { courses = map (capped_course cap limit) o.courses; configs = map (capped_config cap limit) o.configs }

-- the limit that stands now
abbrev pub limit_in : List OfferingRow → Cap → Option Limit
limit_in rows (cap_course id) = option_map (λ c. c.limit) (find_course rows id)
limit_in rows (cap_config id) = option_map (λ g. g.limit) (find_config rows id)
limit_in rows (cap_section id) = option_map (λ s. s.limit) (find_section rows id)

-- the list with f of the element at a position in its place
abbrev pub change_at : {X : Type 0} → ℕ → (X → X) → List X → List X
change_at n f [] = []
change_at zero f (x ∷ xs) = f x ∷ xs
change_at (suc n) f (x ∷ xs) = x ∷ change_at n f xs

abbrev pub put_course : Limit → Place → OfferingRow → OfferingRow
put_course limit at o = record o { courses = change_at at.config (λ c. record c { limit = limit }) o.courses }

abbrev pub put_config : Limit → Place → OfferingRow → OfferingRow
put_config limit at o = record o { configs = change_at at.config (λ g. record g { limit = limit }) o.configs }

abbrev pub put_in_subpart : Limit → Place → SubpartRow → SubpartRow
put_in_subpart limit at p = record p { sections = change_at at.section (λ s. record s { limit = limit }) p.sections }

abbrev pub put_in_config : Limit → Place → ConfigRow → ConfigRow
put_in_config limit at g = record g { subparts = change_at at.subpart (put_in_subpart limit at) g.subparts }

abbrev pub put_section : Limit → Place → OfferingRow → OfferingRow
put_section limit at o = record o { configs = change_at at.config (put_in_config limit at) o.configs }

-- the row with the limit at a place
abbrev pub put_at : Cap → Limit → Place → OfferingRow → OfferingRow
put_at (cap_course id) limit at o = put_course limit at o
put_at (cap_config id) limit at o = put_config limit at o
put_at (cap_section id) limit at o = put_section limit at o

-- the kind and the number of what has the limit
abbrev pub cap_key : Cap → ℕ × ℕ
cap_key (cap_course id) = (1, id.0)
cap_key (cap_config id) = (2, id.0)
cap_key (cap_section id) = (4, id.0)
