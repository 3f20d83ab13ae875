-- The subparts of what was decided for the next want.
use Rattle.std.specs.Prelude.{List, [], Option, Some}
use Rattle.sect_model.specs.Data.{CourseId, ConfigId, SubpartRow}
use Rattle.sect_model.specs.World.{World}
use Rattle.sect_model.specs.Choice.{subparts_of}

-- the subparts of the configuration decided on, if one was
abbrev pub subparts_at : World → Option CourseId → Option ConfigId → List SubpartRow
subparts_at w (Some c) (Some g) = subparts_of w c g
subparts_at w _ _ = []
