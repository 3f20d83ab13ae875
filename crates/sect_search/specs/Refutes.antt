-- That no choices are an allowed move.
use Rattle.std.specs.Prelude.{◌≡◌, false, List}
use Rattle.sect_model.specs.Data.{Choice, Move}
use Rattle.sect_model.specs.World.{World}
use Rattle.sect_model.specs.Move.{is_allowed_move}

-- no list of choices is an allowed move
abbrev pub NoMove : World → Move → Type 0
NoMove w mv = (choices : List Choice) → is_allowed_move w mv choices ≡ false
