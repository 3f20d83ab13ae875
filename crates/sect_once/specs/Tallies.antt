-- The row of a tally's entry: 26 bytes.
use Rattle.std.specs.Prelude.{◌≡◌, ℕ, ◌+◌, ◌-◌, ◌<◌, ◌≤◌, ◌^◌, ◌==◌, Bool, true, false, min, List, [], ◌∷◌, ◌++◌, Option, Some, drop, get_or, take}
use Rattle.std.specs.Int.{from_be_bytes, to_be_bytes, w32, w64}
use Rattle.sect_base.specs.declared.limit.Caller.{Caller}
use Rattle.sect_base.specs.declared.limit.Id.{Id}
use Rattle.sect_base.specs.declared.limit.Caller.TheVariants.{Registrar, Student}
use Rattle.sect_once.specs.declared.entry.Entry.{Entry}

-- the letter of a caller: r for a registrar, s for a student
abbrev pub caller_tag : Caller → ℕ
caller_tag (Registrar n) = 114
caller_tag (Student s) = 115

-- the number of a caller
abbrev pub caller_number : Caller → ℕ
caller_number (Registrar n) = n
caller_number (Student s) = s.0

-- the day, the caller's letter and number, the request's number, the command and the reply, each number with its highest byte first
abbrev pub tally_row : Entry ℕ ℕ → List ℕ
tally_row e = to_be_bytes w32 e.day ++ caller_tag e.id.caller ∷ (to_be_bytes w32 (caller_number e.id.caller) ++ (to_be_bytes w64 e.id.number ++ e.command ∷ to_be_bytes w64 e.reply))

-- a request behind its day: the caller's letter and number, the request's number and the command
abbrev pub tally_asked : Id → ℕ → List ℕ
tally_asked id command = caller_tag id.caller ∷ (to_be_bytes w32 (caller_number id.caller) ++ (to_be_bytes w64 id.number ++ command ∷ []))

-- a request's part of a row: the day, and the request behind it
abbrev pub tally_request : Id → ℕ → ℕ → List ℕ
tally_request id day command = to_be_bytes w32 day ++ tally_asked id command

-- the text is that of the request
abbrev pub IsTallyRequest : Id → ℕ → ℕ → List ℕ → Type 0
IsTallyRequest id day command text = text ≡ tally_request id day command

-- the texts are those of the request's day and of the rest
abbrev pub IsTallyAsked : Id → ℕ → ℕ → List ℕ → List ℕ → Type 0
IsTallyAsked id day command dated rest = (dated ≡ to_be_bytes w32 day) × (rest ≡ tally_asked id command)

-- the caller with a letter and a number
abbrev pub tagged : Bool → ℕ → Caller
tagged true n = Registrar n
tagged false n = Student (record { 0 = n })

-- the entry of a row, with its numbers where a row has them
abbrev pub tally_entry : List ℕ → Option (Entry ℕ ℕ)
tally_entry row = Some (record {
  id = record { caller = tagged (get_or row 4 0 == 114) (from_be_bytes w32 (take 4 (drop 5 row))); number = from_be_bytes w64 (take 8 (drop 9 row)) };
  day = from_be_bytes w32 (take 4 row);
  command = get_or row 17 0;
  reply = from_be_bytes w64 (take 8 (drop 18 row));
})

-- the row is that of the entry, whose numbers are in the ranges of their types
pub record IsTallyRow (e : Entry ℕ ℕ) (row : List ℕ) : Type 0 where
  pub day : e.day ≤ 84005
  pub caller : caller_number e.id.caller < 2 ^ 32
  pub number : e.id.number < 2 ^ 64
  pub command : e.command < 2 ^ 8
  pub reply : e.reply < 2 ^ 64
  pub is : row ≡ tally_row e

-- the text of a sum: its eight bytes
abbrev pub IsSumText : ℕ → List ℕ → Type 0
IsSumText sum text = text ≡ to_be_bytes w64 sum

-- the numbers of a request are in the ranges of their types
abbrev pub MayAsk : Id → ℕ → ℕ → Type 0
MayAsk id day command = (day ≤ 84005) × (caller_number id.caller < 2 ^ 32) × (id.number < 2 ^ 64) × (command < 2 ^ 8)

-- a command adds its number, and is answered by the sum, which stays at the greatest number of 64 bits
abbrev pub tallied : ℕ → ℕ → Caller → ℕ → ℕ × ℕ
tallied sum day caller n = (min (sum + n) (2 ^ 64 - 1), min (sum + n) (2 ^ 64 - 1))
