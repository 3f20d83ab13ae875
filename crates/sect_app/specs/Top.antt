-- What the top call says of its words, its status and its clocks.
use Rattle.std.specs.Prelude.{ℕ, Bool, true, false, List, [], ◌∷◌, ⊤, Option, Some, None}
use Rattle.std.specs.Option.{option_and_then, option_map_or}
use Rattle.sect_script.specs.declared.status.Status.{Status}
use Rattle.sect_script.specs.declared.status.Status.TheVariants as statuses
use Rattle.sect_usage.specs.declared.words.Words.{Words}
use Rattle.sect_usage.specs.declared.words.Words.TheVariants as asked

-- whether what is asked for reads the source
abbrev pub reads : Words → Bool
reads asked.Run = true
reads (asked.Serve port workers sessions) = false
reads (asked.Make offerings) = false
reads asked.Audit = false
reads (asked.Report query) = false
reads (asked.Import table first term) = true
reads (asked.Export table) = false
reads (asked.Plan student budget) = false
reads asked.Survey = false
reads (asked.Help topic) = false
reads asked.Version = false

-- whether words ask for something that reads the source
abbrev pub reads_for : Option Words → Bool
reads_for words = option_map_or reads words false

-- how many connections each worker serves at most, where connections are served
abbrev pub sessions_in : Words → Option ℕ
sessions_in asked.Run = None
sessions_in (asked.Serve port workers sessions) = Some sessions
sessions_in (asked.Make offerings) = None
sessions_in asked.Audit = None
sessions_in (asked.Report query) = None
sessions_in (asked.Import table first term) = None
sessions_in (asked.Export table) = None
sessions_in (asked.Plan student budget) = None
sessions_in asked.Survey = None
sessions_in (asked.Help topic) = None
sessions_in asked.Version = None

-- the same, where the words ask for it
abbrev pub sessions_for : Option Words → Option ℕ
sessions_for words = option_and_then sessions_in words

-- the status tells of no fault
abbrev pub IsUnfaulted : Status → Type 0
IsUnfaulted statuses.Done = ⊤
IsUnfaulted statuses.BadWords = ⊤
IsUnfaulted (statuses.BadLine line field) = ⊤
IsUnfaulted statuses.ReadFault = ⊥
IsUnfaulted statuses.WriteFault = ⊥
IsUnfaulted statuses.KeeperFault = ⊥
IsUnfaulted (statuses.BadEntry row) = ⊤
IsUnfaulted statuses.LinkFault = ⊥
IsUnfaulted statuses.Memory = ⊤

-- the days of the first of the clocks, where it tells them
abbrev pub first_days : {C : Type 0} → (C → Option (List ℕ)) → List C → Option (List ℕ)
first_days days [] = None
first_days days (clock ∷ clocks) = days clock
