-- Paths read part by part, between slashes.
use Rattle.std.specs.Prelude.{◌≡◌, ℕ, List, [], codes, Option, None, Some, option_map, if◌then◌else◌}
use Rattle.std.specs.Str.{bytes_eq}
use Rattle.sect_base.specs.declared.limit.Caller.{Caller}
use Rattle.sect_base.specs.declared.limit.Caller.TheVariants as callers
use Rattle.sect_command.specs.declared.view.Query.{Query}
use Rattle.sect_command.specs.declared.view.Query.TheVariants as queries
use Rattle.sect_words.specs.Parts.{pieces}
use Rattle.sect_words.specs.Reading.{◌>>=◌, is_nil, key_at, word_at}
use Rattle.sect_words.specs.ReadingWords.{u32_of, u64_of, student_caller, student_id, section_id, offering_id}
use Rattle.sect_answer.specs.declared.target.Target.{Target}
use Rattle.sect_answer.specs.declared.target.Target.TheVariants as targets
use Rattle.sect_answer.specs.declared.target.Route.{Route}
use Rattle.sect_answer.specs.declared.target.Route.TheVariants as routes

-- what was found and the parts that are left are what reading the parts gives
abbrev pub Takes : {X : Type 0} → Option X → List (List ℕ) → Option (X × List (List ℕ)) → Type 0
Takes (Some x) rest read = read ≡ Some (x, rest)
Takes None rest read = read ≡ None

-- the word was passed, with the parts that are left
abbrev pub Passes : Option (Unit {0}) → List (List ℕ) → Option (List (List ℕ)) → Type 0
Passes (Some _) rest read = read ≡ Some rest
Passes None rest read = read ≡ None

-- an id behind the name of what it is of
unfoldable pub id_at : List ℕ → List (List ℕ) → Option (ℕ × List (List ℕ))
id_at name parts = do
  start ← key_at [] parts
  named ← key_at name start
  word_at u32_of named

-- an id and the number of a request
unfoldable pub ask_at : List ℕ → List (List ℕ) → Option ((ℕ × ℕ) × List (List ℕ))
ask_at name parts = do
  id ← id_at name parts
  asks ← key_at (codes "asks") id.1
  number ← word_at u64_of asks
  Some ((id.0, number.0), number.1)

-- an id, and then the name of a report
unfoldable pub report_at : List ℕ → List ℕ → List (List ℕ) → Option (ℕ × List (List ℕ))
report_at name report parts = do
  id ← id_at name parts
  rest ← key_at report id.1
  Some (id.0, rest)

-- the target of a command of this caller
abbrev pub asked : (ℕ → Caller) → ℕ × ℕ → Target
asked caller ask = targets.Ask (record { caller = caller ask.0; number = ask.1 })

-- the target of a report with this id
abbrev pub looked : (ℕ → Query) → ℕ → Target
looked query id = targets.Look (query id)

-- the value behind which nothing is left
abbrev pub ended : {X : Type 0} → Option (X × List (List ℕ)) → Option X
ended None = None
ended (Some (x, rest)) = if is_nil rest then Some x else None

-- the target where the path is its
abbrev pub only_path : List ℕ → List ℕ → Query → Option Target
only_path path text query = if bytes_eq path text then Some (targets.Look query) else None

-- the target of a path that a route matches
abbrev pub target_in : Route → List ℕ → Option Target
target_in routes.StudentAsk path = option_map (asked student_caller) (ended (ask_at (codes "students") (pieces 47 path)))
target_in routes.RegistrarAsk path = option_map (asked callers.Registrar) (ended (ask_at (codes "registrars") (pieces 47 path)))
target_in routes.Schedule path = option_map (looked (λ id. queries.Schedule (student_id id))) (ended (id_at (codes "students") (pieces 47 path)))
target_in routes.Roll path = option_map (looked (λ id. queries.Roll (section_id id))) (ended (report_at (codes "sections") (codes "roll") (pieces 47 path)))
target_in routes.Open path = option_map (looked (λ id. queries.Open (offering_id id))) (ended (report_at (codes "offerings") (codes "open") (pieces 47 path)))
target_in routes.Waiting path = only_path path (codes "/waiting") queries.Waiting
target_in routes.Unmet path = only_path path (codes "/unmet") queries.Unmet
