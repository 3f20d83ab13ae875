-- Laws of the texts.
use Rattle.std.specs.Prelude.{◌≡◌, ℕ, List, ◌++◌}
use Rattle.sect_command.specs.declared.command.Command.{Command}
use Rattle.sect_command.specs.declared.reply.Reply.{Reply}
use Rattle.sect_once.specs.declared.entry.Entry.{Entry}
use Rattle.sect_words.specs.Parts.{sentence}
use Rattle.sect_text.specs.Commands.{command_words, command_text}
use Rattle.sect_text.specs.Replies.{reply_text}
use Rattle.sect_text.specs.Rows.{id_words, row_text}
use Rattle.sect_read.specs.declared.line.LineAsk.{LineAsk}
use Rattle.sect_read.specs.Fits.{FitsDay, FitsId, FitsOptional, FitsCommand, FitsReply, FitsEntry}
use Rattle.sect_read.specs.Lines.{IsLine, day_words}

-- the row is that of the entry, which has one
abbrev pub IsRow : Entry Command Reply → List ℕ → Type 0
IsRow e row = FitsEntry e × (row ≡ row_text e)

-- a request that is printed behind its day, its caller and its number is a line that asks it
abbrev pub PrintedIsLine : Type 0
PrintedIsLine =
    (ask : LineAsk) → FitsOptional FitsDay ask.day → FitsId ask.id → FitsCommand ask.command → IsLine (sentence (day_words ask.day ++ (id_words ask.id ++ command_words ask.command))) ask

-- a line asks at most one request
abbrev pub OneRequest : Type 0
OneRequest = (line : List ℕ) (a b : LineAsk) → IsLine line a → IsLine line b → a ≡ b

-- two replies with one text are one
abbrev pub OneReply : Type 0
OneReply = (a b : Reply) → FitsReply a → FitsReply b → reply_text a ≡ reply_text b → a ≡ b

-- two commands with one printed text are one
abbrev pub OneCommand : Type 0
OneCommand = (a b : Command) → FitsCommand a → FitsCommand b → command_text a ≡ command_text b → a ≡ b

-- an entry has one row
abbrev pub OneRow : Type 0
OneRow = (e : Entry Command Reply) (a b : List ℕ) → IsRow e a → IsRow e b → a ≡ b

-- a row is of at most one entry
abbrev pub OneEntry : Type 0
OneEntry = (a b : Entry Command Reply) (row : List ℕ) → IsRow a row → IsRow b row → a ≡ b
