-- The log of a history: each request as a line on its day, and behind it, as comments, its reply and whom settling placed.
use Rattle.std.specs.Prelude.{◌≡◌, ℕ, ◌+◌, nat_le, Bool, true, ◌&&◌, ◌||◌, List, [], ◌∷◌, ◌++◌, flat_map, take, if◌then◌else◌, codes, decimal, Some}
use Rattle.std.specs.Option.{option_map_or}
use Rattle.sect_base.specs.declared.ids.SectionId.{SectionId}
use Rattle.sect_base.specs.declared.ids.StudentId.{StudentId}
use Rattle.sect_base.specs.declared.limit.Caller.TheVariants as callers
use Rattle.sect_command.specs.declared.command.Command.{Command}
use Rattle.sect_command.specs.declared.reply.Reply.{Reply}
use Rattle.sect_model.specs.declared.held.Placed.{Placed}
use Rattle.sect_model.specs.World.{State, empty_state}
use Rattle.sect_once.specs.declared.entry.Entry.{Entry}
use Rattle.sect_history.specs.Step.{stepped}
use Rattle.sect_machine.specs.Settling.{placements}
use Rattle.sect_words.specs.Parts.{sentence}
use Rattle.sect_words.specs.Words.{caller_text, choice_text}
use Rattle.sect_text.specs.Commands.{command_words}
use Rattle.sect_text.specs.Replies.{reply_text}
use Rattle.sect_text.specs.Rows.{id_words}
use Rattle.sect_read.specs.Lines.{day_words}
use Rattle.sect_script.specs.Reading.{LINE_LIMIT}
use Rattle.sect_clerk.specs.declared.log.Log.{Log}
use Rattle.sect_clerk.specs.Naming.{command_names_section, command_names_student, is_caller, places_section, places_student, reply_takes}

-- an entry of a history with its place, and whom settling placed after it, in order
pub record Logged : Type 0 where
  pub place : ℕ
  pub entry : Entry Command Reply
  pub placed : List Placed

-- the entry that acts at this place in this state
abbrev pub logged_at : State → ℕ → Entry Command Reply → Logged
logged_at s place e = record { place = place; entry = e; placed = placements s e.day e.id.caller e.command }

-- the entries from this place and this state on
abbrev pub logged_from : State → ℕ → List (Entry Command Reply) → List Logged
logged_from s place [] = []
logged_from s place (e ∷ es) = logged_at s place e ∷ logged_from (stepped s e.day e.id.caller e.command).0 (place + 1) es

-- the entries of a history
abbrev pub logged : List (Entry Command Reply) → List Logged
logged es = logged_from empty_state 0 es

-- ---- which of them are told

-- the request or a placement behind it names the student
abbrev pub concerns_student : Logged → StudentId → Bool
concerns_student l student =
    is_caller student l.entry.id.caller || command_names_student student l.entry.command || places_student student l.placed

-- the request, its reply or a placement behind it names the section
abbrev pub concerns_section : Logged → SectionId → Bool
concerns_section l section =
    command_names_section section l.entry.command || reply_takes section l.entry.reply || places_section section l.placed

-- the entry concerns the student and the section, where they are named
abbrev pub concerns : Log → Logged → Bool
concerns log l = option_map_or (concerns_student l) log.student true && option_map_or (concerns_section l) log.section true

-- it does, and stands at or behind the first place
abbrev pub is_told : Log → Logged → Bool
is_told log l = nat_le log.from l.place && concerns log l

-- ---- lines

-- the bytes as a line, with its line feed
abbrev pub line_text : List ℕ → List ℕ
line_text bytes = bytes ++ 10 ∷ []

-- `@DAY CALLER NUMBER COMMAND`
abbrev pub request_text : Entry Command Reply → List ℕ
request_text e = line_text (sentence (day_words (Some e.day) ++ (id_words e.id ++ command_words e.command)))

-- `# ` and the text, cut to what a line may have
unfoldable pub comment_text : List ℕ → List ℕ
comment_text text = line_text (take LINE_LIMIT (35 ∷ 32 ∷ text))

-- `# PLACE REPLY`
abbrev pub reply_comment : ℕ → Reply → List ℕ
reply_comment place reply = comment_text (decimal place ++ 32 ∷ reply_text reply)

-- `placed TICKET STUDENT CHOICE`
abbrev pub placed_words : Placed → List (List ℕ)
placed_words p = codes "placed" ∷ decimal p.ticket ∷ caller_text (callers.Student p.student) ∷ choice_text p.choice ∷ []

-- `# placed TICKET STUDENT CHOICE`
abbrev pub placed_comment : Placed → List ℕ
placed_comment p = comment_text (sentence (placed_words p))

-- the lines of an entry
abbrev pub entry_text : Logged → List ℕ
entry_text l = request_text l.entry ++ (reply_comment l.place l.entry.reply ++ flat_map placed_comment l.placed)

-- the lines of an entry, where it is told
abbrev pub told_text : Log → Logged → List ℕ
told_text log l = if is_told log l then entry_text l else []

-- the lines of the entries that are told
abbrev pub log_text : Log → List (Entry Command Reply) → List ℕ
log_text log es = flat_map (told_text log) (logged es)

-- the text is the log of the history
abbrev pub IsLog : Log → List (Entry Command Reply) → List ℕ → Type 0
IsLog log es text = text ≡ log_text log es
