-- Laws of the grammar.
use Rattle.std.specs.Prelude.{◌≡◌, ◌≤◌, ℕ, ◌==◌, ⊤, not, Bool, true, false, List, [], ◌∷◌, ◌++◌, Option, None, Some, codes}
use Rattle.sect_command.specs.declared.view.Table.TheVariants as tables
use Rattle.sect_command.specs.declared.view.Query.TheVariants as queries
use Rattle.sect_words.specs.ReadingWords.{is_nothing}
use Rattle.sect_usage.specs.declared.verb.Verb.{Verb}
use Rattle.sect_usage.specs.declared.verb.Verb.TheVariants as verbs
use Rattle.sect_usage.specs.declared.verb.Topic.TheVariants as topics
use Rattle.sect_usage.specs.declared.words.Words.{Words}
use Rattle.sect_usage.specs.declared.words.Words.TheVariants as asked
use Rattle.sect_usage.specs.Grammar.{desk_words, takes, words_of}
use Rattle.sect_usage.specs.Items.{Item, equals_at, items_of, positionals, value_of}
use Rattle.sect_usage.specs.Options.{allows}
use Rattle.sect_usage.specs.Programs.{asked_by}

-- nothing is asked for
abbrev pub no_words : Option Words
no_words = None

-- some lists of words, with what they ask for
pub record Worked : Type 0 where
  pub run : words_of (codes "run" ∷ []) ≡ Some asked.Run
  pub kept : words_of (codes "run" ∷ codes "--db" ∷ codes "f" ∷ []) ≡ Some asked.Run
  pub twice : words_of (codes "run" ∷ codes "--db" ∷ codes "f" ∷ codes "--journal=g" ∷ []) ≡ no_words
  pub extra : words_of (codes "run" ∷ codes "extra" ∷ []) ≡ no_words
  pub help : words_of (codes "import" ∷ codes "--help" ∷ []) ≡ Some (asked.Help (topics.Command verbs.Import))
  pub export : words_of (codes "export" ∷ codes "--journal=f" ∷ codes "students" ∷ []) ≡ Some (asked.Export tables.Students)
  pub again : words_of (codes "audit" ∷ codes "--db=f" ∷ codes "--db=f" ∷ []) ≡ no_words
  pub empty : words_of (codes "audit" ∷ codes "--db=" ∷ []) ≡ no_words
  pub unmet : words_of (codes "report" ∷ codes "unmet" ∷ []) ≡ Some (asked.Report queries.Unmet)
  pub dash : words_of (codes "run" ∷ codes "--db" ∷ codes "-x" ∷ []) ≡ no_words
  pub portless : words_of (codes "serve" ∷ codes "--workers" ∷ codes "9" ∷ []) ≡ no_words
  pub nobody : words_of (codes "plan" ∷ codes "--budget=12" ∷ []) ≡ no_words
  pub equals : words_of (codes "run" ∷ codes "--db=-x" ∷ []) ≡ Some asked.Run

-- not empty, and it doesn't begin with a dash
abbrev pub is_plain : List ℕ → Bool
is_plain [] = false
is_plain (b ∷ bs) = not (b == 45)

-- an option in one word is the same item as in two
abbrev pub OneItem : Type 0
OneItem =
    (name value : List ℕ) (words : List (List ℕ)) → is_nothing name ≡ false → equals_at name ≡ None → is_plain value ≡ true
    → items_of ((45 ∷ (45 ∷ (name ++ 61 ∷ value))) ∷ words) ≡ items_of ((45 ∷ (45 ∷ name)) ∷ (value ∷ words))

-- items that a command allows ask for the same where the words that stand alone are the same and each name has the same value
abbrev pub AnyOrder : Type 0
AnyOrder =
    (verb : Verb) (a b : List Item) → allows (takes verb) a ≡ true → allows (takes verb) b ≡ true → positionals a ≡ positionals b
    → ((name : List ℕ) → value_of name a ≡ value_of name b) → asked_by desk_words verb a ≡ asked_by desk_words verb b

-- the number is from the least to the most
abbrev pub IsBetween : ℕ → ℕ → ℕ → Type 0
IsBetween least most n = (least ≤ n) × (n ≤ most)

-- offerings are made from 1 to 100; a port is from 1 to 65,535, workers are from 1 to 64, sessions from 1 to 1,000,000; a budget
-- is from 1 to 20,000
abbrev pub IsInRange : Words → Type 0
IsInRange asked.Run = ⊤
IsInRange (asked.Serve port workers sessions) = IsBetween 1 65535 port × IsBetween 1 64 workers × IsBetween 1 1000000 sessions
IsInRange (asked.Make offerings) = IsBetween 1 100 offerings
IsInRange asked.Audit = ⊤
IsInRange (asked.Report query) = ⊤
IsInRange (asked.Import table first term) = ⊤
IsInRange (asked.Export table) = ⊤
IsInRange (asked.Plan student budget) = IsBetween 1 20000 budget
IsInRange asked.Survey = ⊤
IsInRange (asked.Help topic) = ⊤
IsInRange asked.Version = ⊤

-- what words ask for is in this range
abbrev pub AskedInRange : Type 0
AskedInRange = (words : List (List ℕ)) (what : Words) → words_of words ≡ Some what → IsInRange what
