-- A move that fits stands.
use Rattle.sect_model.specs.Data.{Move}
use Rattle.sect_model.specs.World.{World}
use Rattle.sect_model.specs.Premises.{MoveFits}
use Rattle.sect_model.specs.Stands.{MoveStands}

pub stands : (w : World) (mv : Move) → MoveFits w mv → MoveStands w mv
stands w mv fits = record { student = fits.student; courses = fits.courses; sections = fits.sections; sized = fits.sized }
