-- The laws of rows: what is asked with a text gets an entry that has a row.
use Rattle.std.specs.Prelude.{◌≡◌, ℕ, ◌+◌, ◌≤◌, ◌^◌, List, length}
use Rattle.sect_base.specs.declared.limit.Caller.{Caller}
use Rattle.sect_base.specs.declared.limit.Id.{Id}
use Rattle.sect_command.specs.declared.command.Command.{Command}
use Rattle.sect_command.specs.declared.reply.Reply.{Reply}
use Rattle.sect_model.specs.World.{State, empty_state}
use Rattle.sect_model.specs.Kept.{KeptState}
use Rattle.sect_model.specs.Step.{step}
use Rattle.sect_history.specs.Step.{stepped}
use Rattle.sect_once.specs.declared.entry.Entry.{Entry}
use Rattle.sect_once.specs.Desks.{NextHasRow}
use Rattle.sect_once.specs.History.{state_after, HasRow}
use Rattle.sect_wire.specs.Fits.{FitsDay, FitsId, FitsCommand, FitsReply, FitsList}
use Rattle.sect_wire.specs.Laws.{IsRow}
use Rattle.sect_rows.specs.States.{FitsState}

-- the id, the day and the command of a request have texts
abbrev pub MayAsk : Id → ℕ → Command → Type 0
MayAsk id day command = FitsId id × FitsDay day × FitsCommand command

-- the command of an entry has a text
abbrev pub HasCommand : Entry Command Reply → Type 0
HasCommand e = FitsCommand e.command

-- a command with a text gets a reply that has one, and leaves a state of whose parts each has one, with at most 2,000 tickets more
abbrev pub StepFits : Type 0
StepFits =
    (s : State) (most day : ℕ) (caller : Caller) (command : Command) → KeptState s → FitsState most s → FitsCommand command → most + 2000 ≤ 18446744073709551615
    → FitsState (most + 2000) (step s day caller command).state × FitsReply (step s day caller command).reply

-- after a history of at most 2^20 commands with texts, the entry of a request with a text, with the reply that it gets then, has a row
abbrev pub HistoryHasRow : Type 0
HistoryHasRow =
    (es : List (Entry Command Reply)) (e : Entry Command Reply) → FitsList HasCommand es → length es ≤ 2 ^ 20 → MayAsk e.id e.day e.command
    → (stepped (state_after stepped empty_state es) e.day e.id.caller e.command).1 ≡ e.reply → HasRow IsRow e

-- so it has behind entries with rows
abbrev pub EntryHasRow : Type 0
EntryHasRow = NextHasRow empty_state stepped IsRow MayAsk
