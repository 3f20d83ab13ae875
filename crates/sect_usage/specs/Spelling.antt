-- The plain words by which something is asked for: no option in the other spelling, in another order or beside the need.
use Rattle.std.specs.Prelude.{◌≡◌, ℕ, ◌≤◌, ◌<◌, ◌^◌, List, [], ◌∷◌, ⊤, Option, None, Some, codes, decimal}
use Rattle.sect_base.specs.Day.{LAST_DAY}
use Rattle.sect_command.specs.declared.view.Table.{Table}
use Rattle.sect_command.specs.declared.view.Table.TheVariants as tables
use Rattle.sect_command.specs.declared.view.Query.{Query}
use Rattle.sect_command.specs.declared.view.Query.TheVariants as queries
use Rattle.sect_words.specs.Days.{day_text}
use Rattle.sect_usage.specs.declared.verb.Verb.{Verb}
use Rattle.sect_usage.specs.declared.verb.Verb.TheVariants as verbs
use Rattle.sect_usage.specs.declared.verb.Topic.TheVariants as topics
use Rattle.sect_usage.specs.declared.words.Words.{Words}
use Rattle.sect_usage.specs.declared.words.Words.TheVariants as asked
use Rattle.sect_usage.specs.Grammar.{words_of}
use Rattle.sect_usage.specs.Laws.{IsBetween}

-- the word of a command
abbrev pub verb_word : Verb → List ℕ
verb_word verbs.Run = codes "run"
verb_word verbs.Serve = codes "serve"
verb_word verbs.Make = codes "make"
verb_word verbs.Audit = codes "audit"
verb_word verbs.Report = codes "report"
verb_word verbs.Import = codes "import"
verb_word verbs.Export = codes "export"
verb_word verbs.Plan = codes "plan"
verb_word verbs.Survey = codes "survey"

-- the word of a table
abbrev pub table_word : Table → List ℕ
table_word tables.Offerings = codes "offerings"
table_word tables.Students = codes "students"
table_word tables.Requests = codes "requests"
table_word tables.Reservations = codes "reservations"

-- the words of a report; rows are exported, and have none
abbrev pub query_words : Query → List (List ℕ)
query_words (queries.Roll id) = codes "roll" ∷ (decimal id.0 ∷ [])
query_words (queries.Open id) = codes "open" ∷ (decimal id.0 ∷ [])
query_words (queries.Schedule id) = codes "schedule" ∷ (decimal id.0 ∷ [])
query_words queries.Waiting = codes "waiting" ∷ []
query_words queries.Unmet = codes "unmet" ∷ []
query_words (queries.Rows table) = []

-- the words that give the first day of the term, where there is one
abbrev pub term_words : Option ℕ → List (List ℕ)
term_words None = []
term_words (Some day) = codes "--term" ∷ (day_text day ∷ [])

-- the plain words that ask for it
abbrev pub word_list : Words → List (List ℕ)
word_list asked.Run = codes "run" ∷ []
word_list (asked.Serve port workers sessions) =
    codes "serve" ∷ (codes "--port" ∷ (decimal port ∷ (codes "--workers" ∷ (decimal workers ∷ (codes "--sessions" ∷ (decimal sessions ∷ []))))))
word_list (asked.Make offerings) = codes "make" ∷ (decimal offerings ∷ [])
word_list asked.Audit = codes "audit" ∷ []
word_list (asked.Report query) = codes "report" ∷ query_words query
word_list (asked.Import table first term) = codes "import" ∷ (table_word table ∷ (codes "--first" ∷ (decimal first ∷ term_words term)))
word_list (asked.Export table) = codes "export" ∷ (table_word table ∷ [])
word_list (asked.Plan student budget) = codes "plan" ∷ (decimal student.0 ∷ (codes "--budget" ∷ (decimal budget ∷ [])))
word_list asked.Survey = codes "survey" ∷ []
word_list (asked.Help topics.Desk) = codes "--help" ∷ []
word_list (asked.Help (topics.Command verb)) = verb_word verb ∷ (codes "--help" ∷ [])
word_list asked.Version = codes "--version" ∷ []

-- it may be asked for in a report
abbrev pub IsReported : Query → Type 0
IsReported (queries.Roll id) = id.0 < 2 ^ 32
IsReported (queries.Open id) = id.0 < 2 ^ 32
IsReported (queries.Schedule id) = id.0 < 2 ^ 32
IsReported queries.Waiting = ⊤
IsReported queries.Unmet = ⊤
IsReported (queries.Rows table) = ⊥

-- it is a day, where there is one
abbrev pub IsTerm : Option ℕ → Type 0
IsTerm None = ⊤
IsTerm (Some day) = day ≤ LAST_DAY

-- it may be asked for: its numbers are in their ranges
abbrev pub MayBeAsked : Words → Type 0
MayBeAsked asked.Run = ⊤
MayBeAsked (asked.Serve port workers sessions) = IsBetween 1 65535 port × IsBetween 1 64 workers × IsBetween 1 1000000 sessions
MayBeAsked (asked.Make offerings) = IsBetween 1 100 offerings
MayBeAsked asked.Audit = ⊤
MayBeAsked (asked.Report query) = IsReported query
MayBeAsked (asked.Import table first term) = (first < 2 ^ 64) × IsTerm term
MayBeAsked (asked.Export table) = ⊤
MayBeAsked (asked.Plan student budget) = (student.0 < 2 ^ 32) × IsBetween 1 20000 budget
MayBeAsked asked.Survey = ⊤
MayBeAsked (asked.Help topic) = ⊤
MayBeAsked asked.Version = ⊤

-- whatever may be asked for is asked for by its plain words
abbrev pub PlainWords : Type 0
PlainWords = (words : Words) → MayBeAsked words → words_of (word_list words) ≡ Some words
