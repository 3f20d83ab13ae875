-- As many sections are due as a configuration has subparts.
use Rattle.std.specs.Prelude.{◌≡◌, length, Option, Some, None, refl}
use Rattle.sect_model.specs.Data.{CourseId, ConfigId}
use Rattle.sect_model.specs.World.{World}
use Rattle.sect_model.specs.Path.{sections_due}
use Rattle.sect_rules.specs.Decided.{subparts_at}

-- as many sections are due as there are subparts
pub due-parts : (w : World) (course : Option CourseId) (config : Option ConfigId) → length (subparts_at w course config) ≡ sections_due w course config
due-parts w None config = refl
due-parts w (Some c) None = refl
due-parts w (Some c) (Some g) = refl
