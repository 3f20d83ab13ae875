-- What a clerk is shown of a history.
use Rattle.std.specs.Prelude.{◌≡◌, ℕ, List}
use Rattle.sect_base.specs.declared.ids.StudentId.{StudentId}
use Rattle.sect_command.specs.declared.command.Command.{Command}
use Rattle.sect_command.specs.declared.reply.Reply.{Reply}
use Rattle.sect_history.specs.Step.{state_of}
use Rattle.sect_model.specs.Look.{look}
use Rattle.sect_once.specs.declared.entry.Entry.{Entry}
use Rattle.sect_shown.specs.Shown.{demand_text, timetable_of}

-- what is wanted of each course, after the history
abbrev pub IsDemand : List (Entry Command Reply) → List ℕ → Type 0
IsDemand es text = text ≡ demand_text (look (state_of es))

-- the week of a student, after the history
abbrev pub IsTimetable : StudentId → List (Entry Command Reply) → List ℕ → Type 0
IsTimetable student es text = text ≡ timetable_of (look (state_of es)) student
