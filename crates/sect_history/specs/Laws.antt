-- What follows from the definitions, stated for the contracts that prove it.
use Rattle.std.specs.Prelude.{◌≡◌, ℕ, List}
use Rattle.sect_base.specs.declared.limit.Caller.{Caller}
use Rattle.sect_command.specs.declared.command.Command.{Command}
use Rattle.sect_command.specs.declared.reply.Line.{Line}
use Rattle.sect_command.specs.declared.reply.Reply.{Reply}
use Rattle.sect_command.specs.declared.reply.Reply.TheVariants.{Batched}
use Rattle.sect_model.specs.World.{State, empty_state}
use Rattle.sect_model.specs.Kept.{KeptState}
use Rattle.sect_model.specs.Step.{step, on_day}
use Rattle.sect_once.specs.declared.entry.Entry.{Entry}
use Rattle.sect_once.specs.History.{IsReplay}
use Rattle.sect_history.specs.Step.{stepped}
use Rattle.sect_history.specs.Changes.{CommandLeads}
use Rattle.sect_history.specs.BatchLines.{AreGoodLines}
use Rattle.sect_history.specs.Throughout.{IsGoodThroughout}

-- from a good state each command leads to the world behind its step
abbrev pub StepsLead : Type 0
StepsLead = (s : State) (day : ℕ) (caller : Caller) (command : Command) → KeptState s → CommandLeads s.world day command (step s day caller command).state.world

-- the lines by which a step answers a batch are good, in the world on that day
abbrev pub LinesAreGood : Type 0
LinesAreGood =
    (s : State) (day : ℕ) (caller : Caller) (command : Command) (lines : List Line) → KeptState s
    → (step s day caller command).reply ≡ Batched lines → AreGoodLines (on_day s day).world lines

-- a history whose replies are the machine's is good throughout
abbrev pub ReplaysAreGood : Type 0
ReplaysAreGood = (entries : List (Entry Command Reply)) → IsReplay stepped empty_state entries → IsGoodThroughout entries
