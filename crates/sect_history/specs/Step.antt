-- The machine's step, as a history takes it.
use Rattle.std.specs.Prelude.{ℕ, List}
use Rattle.sect_base.specs.declared.limit.Caller.{Caller}
use Rattle.sect_command.specs.declared.command.Command.{Command}
use Rattle.sect_command.specs.declared.reply.Reply.{Reply}
use Rattle.sect_model.specs.Step.{step}
use Rattle.sect_model.specs.World.{State, empty_state}
use Rattle.sect_once.specs.declared.entry.Entry.{Entry}
use Rattle.sect_once.specs.History.{state_after}

-- the machine's step, as a state and a reply
abbrev pub stepped : State → ℕ → Caller → Command → State × Reply
stepped s day caller command = ((step s day caller command).state, (step s day caller command).reply)

-- the state after a history
abbrev pub state_of : List (Entry Command Reply) → State
state_of entries = state_after stepped empty_state entries
