-- The first condition of a command that holds, whoever gives it.
use Rattle.std.specs.Prelude.{ℕ, ◌==◌, ◌&&◌, not, List, [], map, filter, Option, None}
use Rattle.std.specs.Bool.{then_some}
use Rattle.std.specs.List.{list_any}
use Rattle.std.specs.Option.{option_map}
use Rattle.sect_command.specs.declared.command.Command.{Command}
use Rattle.sect_command.specs.declared.command.Command.TheVariants.{Wait, Unwait}
use Rattle.sect_command.specs.declared.reply.Refusal.{Refusal}
use Rattle.sect_command.specs.declared.reply.Refusal.TheVariants.{WaitingAlready, NotWaiting}
use Rattle.sect_model.specs.declared.held.Waiting.{Waiting}
use Rattle.sect_model.specs.World.{World, State}
use Rattle.sect_model.specs.Refusals.{first_of, conditions_of}
use Rattle.sect_model.specs.Rules.{least}
use Rattle.sect_refuse.specs.Tickets.{is_shared}

-- the state of a world and those who wait; no condition looks at the next ticket
abbrev pub state_with : World → List Waiting → ℕ → State
state_with w entries next = record { world = w; entries = entries; next = next }

-- the first condition that holds, in the world and with those who wait
abbrev pub refused_with : World → List Waiting → Command → Option Refusal
refused_with w entries command = first_of (conditions_of (state_with w entries 0) command)

-- the first condition that holds of a command whose conditions don't look at those who wait
abbrev pub refused : World → Command → Option Refusal
refused w command = refused_with w [] command

-- the last condition of a wait, or of an unwait, where it holds: that on the student's own entries; no other command has one
abbrev pub own_refusal : List Waiting → Command → Option Refusal
own_refusal entries (Wait student want give class) = option_map WaitingAlready (least (map (λ e. e.ticket) (filter (is_shared student want.courses) entries)))
own_refusal entries (Unwait student ticket) = then_some (not (list_any (λ e. e.student.0 == student.0 && e.ticket == ticket) entries)) NotWaiting
own_refusal entries command = None
