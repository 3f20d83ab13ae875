-- What `make` tells of the commands that it generates.
use Rattle.std.specs.Prelude.{◌≡◌, ℕ, ◌+◌, ◌*◌, Bool, true, false, List, [], ◌∷◌, ◌++◌, take, count_by, codes, decimal, Option}
use Rattle.std.specs.Io.KnownBytes.{Appends}
use Rattle.sect_base.specs.declared.limit.Caller.TheVariants.{Registrar}
use Rattle.sect_command.specs.declared.command.Command.{Command}
use Rattle.sect_command.specs.declared.reply.Line.{Line}
use Rattle.sect_command.specs.declared.reply.LineResult.{LineResult}
use Rattle.sect_command.specs.declared.reply.LineResult.TheVariants as lines
use Rattle.sect_command.specs.declared.reply.Reply.{Reply}
use Rattle.sect_command.specs.declared.reply.Reply.TheVariants.{Amended, Enrolled, Dropped, Swapped, Waiting, Placed, Batched, Blocked, Spent, Refused}
use Rattle.sect_edge.specs.Clock.{GivesDay}
use Rattle.sect_model.specs.Step.{step}
use Rattle.sect_model.specs.World.{State, empty_state}
use Rattle.sect_script.specs.declared.status.Status.{Status}
use Rattle.sect_script.specs.declared.status.Status.TheVariants as statuses
use Rattle.sect_app.specs.Generated.{generated}

-- the lines of a batch's reply
abbrev pub lines_of : Reply → List Line
lines_of Amended = []
lines_of (Enrolled choice) = []
lines_of (Dropped course) = []
lines_of (Swapped choices) = []
lines_of (Waiting ticket) = []
lines_of (Placed ticket choice) = []
lines_of (Batched batch) = batch
lines_of (Blocked visits tree) = []
lines_of (Spent budget) = []
lines_of (Refused refusal) = []

-- whether a request was met
abbrev pub result_is_met : LineResult → Bool
result_is_met (lines.Met choice) = true
result_is_met (lines.Held course) = false
result_is_met (lines.Blocked visits tree) = false
result_is_met lines.Spent = false
result_is_met (lines.Waiting ticket) = false
result_is_met lines.Skipped = false

-- whether it was blocked
abbrev pub result_is_blocked : LineResult → Bool
result_is_blocked (lines.Met choice) = false
result_is_blocked (lines.Held course) = false
result_is_blocked (lines.Blocked visits tree) = true
result_is_blocked lines.Spent = false
result_is_blocked (lines.Waiting ticket) = false
result_is_blocked lines.Skipped = false

-- whether its search was too long
abbrev pub result_is_spent : LineResult → Bool
result_is_spent (lines.Met choice) = false
result_is_spent (lines.Held course) = false
result_is_spent (lines.Blocked visits tree) = false
result_is_spent lines.Spent = true
result_is_spent (lines.Waiting ticket) = false
result_is_spent lines.Skipped = false

-- a state, and how many lines of batches were met, blocked and spent on the way to it
pub record Tally : Type 0 where
  pub state : State
  pub met : ℕ
  pub blocked : ℕ
  pub spent : ℕ

-- the lines of a reply are counted
abbrev pub counted : Tally → State → List Line → Tally
counted t state batch = record {
  state = state;
  met = t.met + count_by (λ line. result_is_met line.result) batch;
  blocked = t.blocked + count_by (λ line. result_is_blocked line.result) batch;
  spent = t.spent + count_by (λ line. result_is_spent line.result) batch;
}

-- registrar 1 asks for the command on the day
abbrev pub tallied : ℕ → Tally → Command → Tally
tallied day t command = counted t (step t.state day (Registrar 1) command).state (lines_of (step t.state day (Registrar 1) command).reply)

-- registrar 1 asks for the commands on the day, one after another
abbrev pub tally_from : ℕ → Tally → List Command → Tally
tally_from day t [] = t
tally_from day t (command ∷ commands) = tally_from day (tallied day t command) commands

-- nothing was asked yet
abbrev pub empty_tally : Tally
empty_tally = record { state = empty_state; met = 0; blocked = 0; spent = 0 }

-- what is counted of the generated commands, on an empty machine
abbrev pub tally_of : ℕ → ℕ → Tally
tally_of n day = tally_from day empty_tally (generated n)

-- `offerings N students M met A blocked B spent C`
abbrev pub summary_line : ℕ → Tally → List ℕ
summary_line n t =
    codes "offerings " ++ (decimal n ++ (codes " students " ++ (decimal (20 * n) ++ (codes " met " ++ (decimal t.met
    ++ (codes " blocked " ++ (decimal t.blocked ++ (codes " spent " ++ (decimal t.spent ++ codes "\n")))))))))

-- the text was written, or a front of it where the sink failed, or nothing where memory was wanted
abbrev pub Prints : List ℕ → Option (List ℕ) → Option (List ℕ) → Status → Type 0
Prints text taken taken' statuses.Done = Appends taken taken' text
Prints text taken taken' statuses.WriteFault = (n : ℕ) × Appends taken taken' (take n text)
Prints text taken taken' statuses.Memory = taken' ≡ taken
Prints text taken taken' _ = ⊥

-- the summary for n offerings was written, on the day that the clock gives
abbrev pub Makes : ℕ → Option (List ℕ) → Option (List ℕ) → Option (List ℕ) → Status → Type 0
Makes n days taken taken' status =
    (day : ℕ) × (days' : Option (List ℕ)) × GivesDay days days' day × Prints (summary_line n (tally_of n day)) taken taken' status
