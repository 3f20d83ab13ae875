-- A path of a move in a world.
use Rattle.sect_model.specs.Data.{Move}
use Rattle.sect_model.specs.World.{World}
use Rattle.sect_model.specs.Path.{Path}

-- a path of a move in a world
pub record Place : Type 0 where
  pub world : World
  pub mv : Move
  pub path : Path
