-- What the program needs before it begins.
use Rattle.std.specs.Prelude.{ℕ, List, [], ◌∷◌, Option, None, Some, codes, option_map}
use Rattle.std.specs.String.{string_bytes}
use Rattle.sect_usage.specs.declared.needed.Needs.{Needs}
use Rattle.sect_usage.specs.declared.needed.Paths.{Paths}
use Rattle.sect_usage.specs.declared.words.Words.{Words}
use Rattle.sect_usage.specs.declared.words.Words.TheVariants as asked
use Rattle.sect_usage.specs.Grammar.{words_of}
use Rattle.sect_usage.specs.Items.{Item, items_of, value_of}

-- the files of the keepers
pub record Named : Type 0 where
  pub db : Option (List ℕ)
  pub journal : Option (List ℕ)

-- those that are held
abbrev pub named : Paths → Named
named p = record { db = option_map string_bytes p.db; journal = option_map string_bytes p.journal }

-- those that the items name
abbrev pub named_by : List Item → Named
named_by items = record { db = value_of (codes "db") items; journal = value_of (codes "journal") items }

-- the files of the keepers, and the port and the workers of `serve`
pub record Needed : Type 0 where
  pub files : Named
  pub port : Option ℕ
  pub workers : ℕ

-- the needs that are held
abbrev pub needed : Needs → Needed
needed n = record { files = named n.paths; port = n.port; workers = n.workers }

-- the items behind a command
abbrev pub items_behind : List (List ℕ) → List Item
items_behind [] = []
items_behind (word ∷ words) = items_of words

-- the port at which is served
abbrev pub port_of : Words → Option ℕ
port_of asked.Run = None
port_of (asked.Serve port workers sessions) = Some port
port_of (asked.Make offerings) = None
port_of asked.Audit = None
port_of (asked.Report query) = None
port_of (asked.Import table first term) = None
port_of (asked.Export table) = None
port_of (asked.Plan student budget) = None
port_of asked.Survey = None
port_of (asked.Help topic) = None
port_of asked.Version = None

-- how many workers serve, 0 where nothing is served
abbrev pub workers_of : Words → ℕ
workers_of asked.Run = 0
workers_of (asked.Serve port workers sessions) = workers
workers_of (asked.Make offerings) = 0
workers_of asked.Audit = 0
workers_of (asked.Report query) = 0
workers_of (asked.Import table first term) = 0
workers_of (asked.Export table) = 0
workers_of (asked.Plan student budget) = 0
workers_of asked.Survey = 0
workers_of (asked.Help topic) = 0
workers_of asked.Version = 0

-- what the words need: the keepers that the items behind the command name, and the port and the workers
abbrev pub needed_by : List (List ℕ) → Words → Needed
needed_by words what = record { files = named_by (items_behind words); port = port_of what; workers = workers_of what }

-- what the words need, where they are in the grammar
abbrev pub needs_of : List (List ℕ) → Option Needed
needs_of words = option_map (needed_by words) (words_of words)
