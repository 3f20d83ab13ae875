-- Reading lines and entry rows.
use Rattle.std.specs.Prelude.{◌≡◌, ℕ, ◌==◌, Bool, true, false, List, [], ◌∷◌, if◌then◌else◌, Option, None, Some, Result, Ok, Err, codes}
use Rattle.sect_base.specs.declared.limit.Id.{Id}
use Rattle.sect_command.specs.declared.command.Command.{Command}
use Rattle.sect_command.specs.declared.reply.Reply.{Reply}
use Rattle.sect_once.specs.declared.entry.Entry.{Entry}
use Rattle.sect_once.specs.declared.entry.Request.{Request}
use Rattle.sect_words.specs.Parts.{pieces}
use Rattle.sect_text.specs.Rows.{is_marked}
use Rattle.sect_words.specs.Reading.{◌>>=◌, word_at, key_at, mark_at, with_rest, later_parts, whole}
use Rattle.sect_words.specs.ReadingWords.{u64_of, day_of, caller_of}
use Rattle.sect_read.specs.declared.verb.Verb.{Verb}
use Rattle.sect_read.specs.declared.line.LineAsk.{LineAsk}
use Rattle.sect_read.specs.declared.line.LineFront.{LineFront}
use Rattle.sect_read.specs.declared.fault.WireFault.{WireFault}
use Rattle.sect_read.specs.declared.fault.WireFault.TheVariants as wire
use Rattle.sect_read.specs.ReadingCommands.{command_at, arguments_at, verb_of}
use Rattle.sect_read.specs.ReadingReplies.{reply_at}

-- what stands behind `@` in the first part
abbrev pub at_of : List (List ℕ) → Option (List ℕ)
at_of [] = None
at_of ([] ∷ parts) = None
at_of ((b ∷ bs) ∷ parts) = if b == 64 then Some bs else None

abbrev pub day_behind : List (List ℕ) → Option (List ℕ) → Option (Option ℕ × List (List ℕ))
day_behind parts None = Some (None, parts)
day_behind parts (Some text) = day_of text >>= λ day. Some (Some day, later_parts parts)

-- `@` and a day, where the line names one
unfoldable pub line_day_at : List (List ℕ) → Option (Option ℕ × List (List ℕ))
line_day_at parts = day_behind parts (at_of parts)

abbrev pub parts_behind : List (List ℕ) → Option (List ℕ) → List (List ℕ)
parts_behind parts None = parts
parts_behind parts (Some text) = later_parts parts

-- the parts of a line behind its day, where it names one
abbrev pub undated : List (List ℕ) → List (List ℕ)
undated parts = parts_behind parts (at_of parts)

-- a caller and a number
unfoldable pub id_at : List (List ℕ) → Option (Id × List (List ℕ))
id_at parts = do
  caller ← word_at caller_of parts
  number ← word_at u64_of caller.1
  Some (record { caller = caller.0; number = number.0 }, number.1)

-- what stands before the verb of a line
unfoldable pub front_at : List (List ℕ) → Option ((Option ℕ × Id) × List (List ℕ))
front_at parts = do
  day ← line_day_at parts
  id ← id_at day.1
  Some ((day.0, id.0), id.1)

-- what a line says where a command is read, or not
abbrev pub asked : Option ℕ × Id → Option Command → Result LineAsk WireFault
asked front None = Err wire.BadLine
asked front (Some command) = Ok (record { day = front.0; id = front.1; command = command })

abbrev pub asked_by : Option ℕ × Id → Option Verb → List (List ℕ) → Result LineAsk WireFault
asked_by front None parts = Err wire.UnknownVerb
asked_by front (Some verb) parts = asked front (whole (arguments_at true verb parts))

abbrev pub asked_behind : Option ℕ × Id → List (List ℕ) → Result LineAsk WireFault
asked_behind front [] = Err wire.BadLine
asked_behind front (part ∷ parts) = asked_by front (verb_of part) parts

abbrev pub line_at : Option ((Option ℕ × Id) × List (List ℕ)) → Result LineAsk WireFault
line_at None = Err wire.BadLine
line_at (Some (front, parts)) = asked_behind front parts

-- what a line asks, or why it asks nothing
abbrev pub line_of : List ℕ → Result LineAsk WireFault
line_of text = line_at (front_at (pieces 32 text))

-- what was returned is this, unless memory ran out
abbrev pub Says : {X : Type 0} → Result X WireFault → Result X WireFault → Type 0
Says (Ok x) read = read ≡ Ok x
Says (Err wire.BadLine) read = read ≡ Err wire.BadLine
Says (Err wire.UnknownVerb) read = read ≡ Err wire.UnknownVerb
Says (Err (wire.BadBody cause)) read = ⊥
Says (Err wire.Memory) read = Unit {0}

-- what a line says behind what was read of it, with the parts that are left: the day, the id and the verb, or why it asks nothing
abbrev pub Fronts : Result LineFront WireFault → List (List ℕ) → Result LineAsk WireFault → Type 0
Fronts (Ok front) rest said = said ≡ asked (front.day, front.id) (whole (arguments_at true front.verb rest))
Fronts (Err fault) rest said = Says {X = LineAsk} (Err fault) said

-- the command, or that there is none
abbrev pub commanded : Option Command → Result Command WireFault
commanded None = Err wire.BadLine
commanded (Some command) = Ok command

-- what the text of a command alone says, where defaults may be written
abbrev pub command_in : List ℕ → Result Command WireFault
command_in text = commanded (whole (command_at true (pieces 32 text)))

-- the two agree
abbrev pub agrees : Bool → Bool → Bool
agrees true true = true
agrees false false = true
agrees true false = false
agrees false true = false

-- the request, where it has the mark that its command has
abbrev pub request_if : Bool → Request Command → Option (Request Command)
request_if good r = if good then Some r else None

-- a request in a row
unfoldable pub request_at : List (List ℕ) → Option (Request Command × List (List ℕ))
request_at parts = do
  let mark = mark_at (codes "2") parts
  day ← word_at day_of mark.1
  id ← id_at day.1
  command ← command_at false id.1
  with_rest command.1 (request_if (agrees mark.0 (is_marked command.0)) (record { id = id.0; day = day.0; command = command.0 }))

-- a request and its reply
unfoldable pub row_at : List (List ℕ) → Option (Entry Command Reply × List (List ℕ))
row_at parts = do
  request ← request_at parts
  key ← key_at (codes "=") request.1
  reply ← reply_at key
  Some (record { id = request.0.id; day = request.0.day; command = request.0.command; reply = reply.0 }, reply.1)

-- the request of a text
abbrev pub request_of : List ℕ → Option (Request Command)
request_of text = whole (request_at (pieces 32 text))

-- the entry of a row
abbrev pub row_of : List ℕ → Option (Entry Command Reply)
row_of text = whole (row_at (pieces 32 text))
