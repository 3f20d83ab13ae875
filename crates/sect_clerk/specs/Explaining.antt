-- Why the search at a place of a history was blocked, in words.
use Rattle.std.specs.Prelude.{◌≡◌, ℕ, List, codes, slice_get, take}
use Rattle.std.specs.Option.{option_map_or}
use Rattle.sect_command.specs.declared.command.Command.{Command}
use Rattle.sect_command.specs.declared.reply.Reply.{Reply}
use Rattle.sect_explain.specs.Replied.{reply_explained}
use Rattle.sect_history.specs.Step.{state_of}
use Rattle.sect_model.specs.Step.{on_day}
use Rattle.sect_model.specs.World.{State}
use Rattle.sect_once.specs.declared.entry.Entry.{Entry}
use Rattle.sect_report.specs.Report.{unknown_text}

-- what is said of an entry that acts in this state, in the world on its day
abbrev pub explained_in : State → Entry Command Reply → List ℕ
explained_in s e = reply_explained (on_day s e.day).world e.command e.reply

-- what is said of the entry at a place, in the state after those before it; or that no entry stands there
abbrev pub explained_at : List (Entry Command Reply) → ℕ → List ℕ
explained_at es place = option_map_or (explained_in (state_of (take place es))) (slice_get es place) (unknown_text (codes "place") place)

-- the text explains the place of the history
abbrev pub IsExplanation : ℕ → List (Entry Command Reply) → List ℕ → Type 0
IsExplanation place es text = text ≡ explained_at es place
