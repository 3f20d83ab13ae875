-- What the words of the command line ask for.
use Rattle.std.specs.Prelude.{ℕ, ◌||◌, Bool, false, if◌then◌else◌, List, [], ◌∷◌, Option, None, Some, codes, option_map}
use Rattle.std.specs.Str.{bytes_eq}
use Rattle.sect_command.specs.declared.view.Table.{Table}
use Rattle.sect_command.specs.declared.view.Table.TheVariants as tables
use Rattle.sect_command.specs.declared.view.Query.{Query}
use Rattle.sect_command.specs.declared.view.Query.TheVariants as queries
use Rattle.sect_words.specs.Reading.{◌>>=◌}
use Rattle.sect_words.specs.ReadingWords.{between_of, day_of, offering_of, section_of, student_of, u64_of}
use Rattle.sect_usage.specs.declared.verb.Verb.{Verb}
use Rattle.sect_usage.specs.declared.verb.Verb.TheVariants as verbs
use Rattle.sect_usage.specs.declared.verb.Topic.TheVariants as topics
use Rattle.sect_usage.specs.declared.words.Words.{Words}
use Rattle.sect_usage.specs.declared.words.Words.TheVariants as asked
use Rattle.sect_usage.specs.Items.{Item, positionals, value_of}
use Rattle.sect_usage.specs.Options.{is_keeper, the_one, where_none}
use Rattle.sect_usage.specs.Programs.{Program, words_in}

-- the command of a word
unfoldable pub verb_of : List ℕ → Option Verb
verb_of word =
    if bytes_eq word (codes "run") then Some verbs.Run else
    (if bytes_eq word (codes "serve") then Some verbs.Serve else
    (if bytes_eq word (codes "make") then Some verbs.Make else
    (if bytes_eq word (codes "audit") then Some verbs.Audit else
    (if bytes_eq word (codes "report") then Some verbs.Report else
    (if bytes_eq word (codes "import") then Some verbs.Import else
    (if bytes_eq word (codes "export") then Some verbs.Export else
    (if bytes_eq word (codes "plan") then Some verbs.Plan else
    (if bytes_eq word (codes "survey") then Some verbs.Survey else None))))))))

-- the option is one of `serve` alone
abbrev pub is_of_serve : List ℕ → Bool
is_of_serve name = bytes_eq name (codes "port") || (bytes_eq name (codes "workers") || bytes_eq name (codes "sessions"))

-- the command has the option
unfoldable pub takes : Verb → List ℕ → Bool
takes verbs.Run name = is_keeper name
takes verbs.Serve name = is_keeper name || is_of_serve name
takes verbs.Make name = false
takes verbs.Audit name = is_keeper name
takes verbs.Report name = is_keeper name
takes verbs.Import name = is_keeper name || (bytes_eq name (codes "first") || bytes_eq name (codes "term"))
takes verbs.Export name = is_keeper name
takes verbs.Plan name = is_keeper name || bytes_eq name (codes "budget")
takes verbs.Survey name = is_keeper name

-- a table
unfoldable pub table_of : List ℕ → Option Table
table_of word =
    if bytes_eq word (codes "offerings") then Some tables.Offerings else
    (if bytes_eq word (codes "students") then Some tables.Students else
    (if bytes_eq word (codes "requests") then Some tables.Requests else
    (if bytes_eq word (codes "reservations") then Some tables.Reservations else None)))

-- what a report of this kind asks for, with the words behind the kind
unfoldable pub query_by : List ℕ → List (List ℕ) → Option Query
query_by kind words =
    if bytes_eq kind (codes "waiting") then where_none (Some queries.Waiting) words else
    (if bytes_eq kind (codes "unmet") then where_none (Some queries.Unmet) words else
    (if bytes_eq kind (codes "roll") then option_map queries.Roll (the_one words >>= section_of) else
    (if bytes_eq kind (codes "open") then option_map queries.Open (the_one words >>= offering_of) else
    (if bytes_eq kind (codes "schedule") then option_map queries.Schedule (the_one words >>= student_of) else None))))

-- what a report asks for, by the words that stand alone
abbrev pub query_of : List (List ℕ) → Option Query
query_of [] = None
query_of (kind ∷ words) = query_by kind words

-- a day, where there is a text
abbrev pub term_of : Option (List ℕ) → Option (Option ℕ)
term_of None = Some None
term_of (Some text) = option_map Some (day_of text)

-- the number from the least to the most where there is a word, else the usual one
abbrev pub usual_or : ℕ → ℕ → ℕ → Option (List ℕ) → Option ℕ
usual_or usual least most None = Some usual
usual_or usual least most (Some word) = between_of least most word

-- what `serve` asks for: four workers and 1,000,000 sessions where they aren't named
abbrev pub serve_of : List Item → Option Words
serve_of items = do
  port ← value_of (codes "port") items >>= between_of 1 65535
  workers ← usual_or 4 1 64 (value_of (codes "workers") items)
  sessions ← usual_or 1000000 1 1000000 (value_of (codes "sessions") items)
  Some (asked.Serve port workers sessions)

-- what `make` asks for
abbrev pub make_of : List Item → Option Words
make_of items = do
  offerings ← the_one (positionals items) >>= between_of 1 100
  Some (asked.Make offerings)

-- what `import` asks for
abbrev pub import_of : List Item → Option Words
import_of items = do
  table ← the_one (positionals items) >>= table_of
  first ← value_of (codes "first") items >>= u64_of
  term ← term_of (value_of (codes "term") items)
  Some (asked.Import table first term)

-- what `plan` asks for: each search visits at most 2,000 decisions where the budget isn't named
abbrev pub plan_of : List Item → Option Words
plan_of items = do
  student ← the_one (positionals items) >>= student_of
  budget ← usual_or 2000 1 20000 (value_of (codes "budget") items)
  Some (asked.Plan student budget)

-- what a command asks for by items that it allows
unfoldable pub asked_for : Verb → List Item → Option Words
asked_for verbs.Run items = where_none (Some asked.Run) (positionals items)
asked_for verbs.Serve items = where_none (serve_of items) (positionals items)
asked_for verbs.Make items = make_of items
asked_for verbs.Audit items = where_none (Some asked.Audit) (positionals items)
asked_for verbs.Report items = option_map asked.Report (query_of (positionals items))
asked_for verbs.Import items = import_of items
asked_for verbs.Export items = option_map asked.Export (the_one (positionals items) >>= table_of)
asked_for verbs.Plan items = plan_of items
asked_for verbs.Survey items = where_none (Some asked.Survey) (positionals items)

-- the words of the desk
abbrev pub desk_words : Program Verb Words
desk_words = record {
  verb_of = verb_of;
  takes = takes;
  asked_for = asked_for;
  help_on = λ verb. asked.Help (topics.Command verb);
  help = asked.Help topics.Desk;
  version = asked.Version;
}

-- what the words ask for
unfoldable pub words_of : List (List ℕ) → Option Words
words_of words = words_in desk_words words
