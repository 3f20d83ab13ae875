-- What is done for the clerk's words.
use Rattle.std.specs.Prelude.{◌≡◌, ◌⊎◌, ℕ, Bool, true, false, List, Option}
use Rattle.std.specs.Option.{option_map_or}
use Rattle.sect_command.specs.declared.command.Command.{Command}
use Rattle.sect_command.specs.declared.reply.Reply.{Reply}
use Rattle.sect_history.specs.Step.{stepped}
use Rattle.sect_model.specs.World.{empty_state}
use Rattle.sect_once.specs.declared.entry.Entry.{Entry}
use Rattle.sect_wire.specs.Laws.{IsRow}
use Rattle.sect_script.specs.declared.status.Status.{Status}
use Rattle.sect_script.specs.Statuses.{Says}
use Rattle.sect_asking.specs.Desk.{StaysShut}
use Rattle.sect_clerk.specs.Explaining.{IsExplanation}
use Rattle.sect_clerk.specs.Log.{IsLog}
use Rattle.sect_tell.specs.Told.{TellsHistory}
use Rattle.sect_clerk.specs.Tried.{Tries}
use Rattle.sect_clerk_words.specs.declared.words.Words.{Words}
use Rattle.sect_clerk_words.specs.declared.words.Words.TheVariants as asked
use Rattle.sect_clerk_words.specs.Help.{help_text, version_text}
use Rattle.sect_clerk.specs.Checked.{Checks, RunWould}
use Rattle.sect_clerk.specs.Shows.{IsDemand, IsTimetable}

module _ {K : Type 0} (rows : K → Option (List (List ℕ))) (faults : K → ℕ) where
  -- a text of the history to which the keeper opened was written, or it didn't open; nothing was read
  abbrev pub TellsOf : (List (Entry Command Reply) → List ℕ → Type 0) → K → K → Option (List ℕ) → Option (List ℕ) → Option (List ℕ) → Option (List ℕ) → Status → Type 0
  TellsOf IsText keeper back left left' taken taken' status =
      TellsHistory rows faults IsText keeper back taken taken' status ⊎ StaysShut empty_state stepped IsRow rows faults keeper back left left' taken taken' status

  -- what was done for these words
  abbrev pub ClerkDoes : Words → K → K → Option (List ℕ) → Option (List ℕ) → Option (List ℕ) → Option (List ℕ) → Option (List ℕ) → Status → Type 0
  ClerkDoes asked.Check keeper back left left' taken taken' days status =
      Checks left left' taken taken' status × RunWould status left × (back ≡ keeper)
  ClerkDoes asked.Demand keeper back left left' taken taken' days status = TellsOf IsDemand keeper back left left' taken taken' status
  ClerkDoes (asked.Explain place) keeper back left left' taken taken' days status = TellsOf (IsExplanation place) keeper back left left' taken taken' status
  ClerkDoes (asked.Log student section from) keeper back left left' taken taken' days status =
      TellsOf (IsLog (record { student = student; section = section; from = from })) keeper back left left' taken taken' status
  ClerkDoes (asked.Timetable student) keeper back left left' taken taken' days status = TellsOf (IsTimetable student) keeper back left left' taken taken' status
  ClerkDoes asked.Try keeper back left left' taken taken' days status =
      Tries empty_state stepped IsRow rows faults keeper back left left' taken taken' days status
  ClerkDoes (asked.Help topic) keeper back left left' taken taken' days status = Says (help_text topic) taken taken' status × (left' ≡ left) × (back ≡ keeper)
  ClerkDoes asked.Version keeper back left left' taken taken' days status = Says version_text taken taken' status × (left' ≡ left) × (back ≡ keeper)

-- whether what is asked for reads the source
abbrev pub reads : Words → Bool
reads asked.Check = true
reads asked.Demand = false
reads (asked.Explain place) = false
reads (asked.Log student section from) = false
reads (asked.Timetable student) = false
reads asked.Try = true
reads (asked.Help topic) = false
reads asked.Version = false

-- whether words ask for something that reads the source
abbrev pub reads_for : Option Words → Bool
reads_for words = option_map_or reads words false
