-- Whom settling places after a command.
use Rattle.std.specs.Prelude.{ℕ, List}
use Rattle.sect_command.specs.declared.command.Command.{Command}
use Rattle.sect_model.specs.Data.{Caller}
use Rattle.sect_model.specs.declared.held.Placed.{Placed}
use Rattle.sect_model.specs.World.{State}
use Rattle.sect_model.specs.Settle.{settle}
use Rattle.sect_model.specs.Step.{answered, on_day}

-- the placements that settling makes after the command of a caller on a day, in order
unfoldable pub placements : State → ℕ → Caller → Command → List Placed
placements s day caller command = (settle (answered (on_day s day) caller command).state).placed
