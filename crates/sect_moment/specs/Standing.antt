-- Where a decision stands: a configuration in the offering, a section in the next subpart.
use Rattle.std.specs.Prelude.{Bool, false, true, ◌&&◌, ◌==◌, List, Option, zip}
use Rattle.std.specs.List.{list_any, list_all}
use Rattle.std.specs.Option.{option_map_or, is_some}
use Rattle.sect_reserve.specs.Audience.{admits_config, admits_section}
use Rattle.sect_model.specs.Data.{CourseId, ConfigId, SectionId, SubpartRow, Includes}
use Rattle.sect_model.specs.declared.pick.Pick.{Pick}
use Rattle.sect_model.specs.declared.pick.Pick.TheVariants.{Course, Reservation, Config, Section}
use Rattle.sect_model.specs.World.{World, offering_of}
use Rattle.sect_model.specs.Choice.{config_in}
use Rattle.sect_model.specs.Path.{Path, next_subpart}

-- the configuration and each section is admitted
abbrev pub admits_all : List SubpartRow → ConfigId → List SectionId → Includes → Bool
admits_all subparts config sections includes =
    admits_config includes config && list_all (λ p. admits_section includes p.0.id p.1) (zip subparts sections)

-- the course's offering has the configuration
abbrev pub own_config : World → CourseId → ConfigId → Bool
own_config w course config = option_map_or (λ o. is_some (config_in o config)) (offering_of w course) false

-- the subpart that comes after those sections has the section
abbrev pub own_section : World → CourseId → ConfigId → List SectionId → SectionId → Bool
own_section w course config sections section =
    option_map_or (λ p. list_any (λ s. s.id.0 == section.0) p.sections) (next_subpart w course config sections) false

-- a decision stands in what was decided before it
abbrev pub stands_at : World → Option CourseId → Option ConfigId → List SectionId → Pick → Bool
stands_at w course config sections (Course id) = true
stands_at w course config sections (Reservation id) = true
stands_at w course config sections (Config id) = option_map_or (λ c. own_config w c id) course false
stands_at w course config sections (Section id) = option_map_or (λ c. option_map_or (λ g. own_section w c g sections id) config false) course false

-- a decision stands where the path has come to
abbrev pub stands : World → Path → Pick → Bool
stands w p pick = stands_at w p.course p.config p.sections pick
