-- The words of an entry's row.
use Rattle.std.specs.Prelude.{ℕ, ◌==◌, Bool, true, false, not, List, [], ◌∷◌, ◌++◌, decimal}
use Rattle.std.specs.Option.{is_some}
use Rattle.sect_base.specs.declared.limit.Id.{Id}
use Rattle.sect_command.specs.declared.command.Command.{Command}
use Rattle.sect_command.specs.declared.command.Command.TheVariants as commands
use Rattle.sect_command.specs.declared.reply.Reply.{Reply}
use Rattle.sect_once.specs.declared.entry.Entry.{Entry}
use Rattle.sect_words.specs.Parts.{sentence}
use Rattle.sect_words.specs.Days.{day_text}
use Rattle.sect_words.specs.Words.{caller_text}
use Rattle.sect_text.specs.Commands.{command_text, command_words}
use Rattle.sect_text.specs.Replies.{reply_words}

-- the command has a first day, or a class other than 5
abbrev pub is_marked : Command → Bool
is_marked (commands.Reserve row) = is_some row.first
is_marked (commands.Wait student want give class) = not (class == 5)
is_marked _ = false

-- the day, behind the mark `2` where the row is marked
abbrev pub row_front : Bool → ℕ → List (List ℕ)
row_front true day = (50 ∷ []) ∷ day_text day ∷ []
row_front false day = day_text day ∷ []

-- the bytes, behind `2` and a space where they are marked
abbrev pub behind_mark : Bool → List ℕ → List ℕ
behind_mark true bytes = 50 ∷ 32 ∷ bytes
behind_mark false bytes = bytes

-- the caller and the number
abbrev pub id_words : Id → List (List ℕ)
id_words id = caller_text id.caller ∷ decimal id.number ∷ []

-- a day with the space behind it
abbrev pub day_part : ℕ → List ℕ
day_part day = day_text day ++ 32 ∷ []

-- a request in a row: the mark, the day, the id, the command and `=`, each behind the one before it, and a space
abbrev pub request_part : Id → ℕ → Command → List ℕ
request_part id day command = (sentence (row_front (is_marked command) day ++ id_words id) ++ 32 ∷ []) ++ (command_text command ++ 32 ∷ 61 ∷ 32 ∷ [])

-- a request behind its day and a space: the caller, the number and the command
abbrev pub asked_part : Id → Command → List ℕ
asked_part id command = sentence (id_words id ++ command_words command)

-- the id, the command, `=` and the reply
abbrev pub row_rest : Entry Command Reply → List (List ℕ)
row_rest e = id_words e.id ++ (command_words e.command ++ ((61 ∷ []) ∷ reply_words e.reply))

-- the mark, the day, the id, the command, `=` and the reply
abbrev pub row_words : Entry Command Reply → List (List ℕ)
row_words e = row_front (is_marked e.command) e.day ++ row_rest e

-- the row of an entry
abbrev pub row_text : Entry Command Reply → List ℕ
row_text e = sentence (row_words e)
