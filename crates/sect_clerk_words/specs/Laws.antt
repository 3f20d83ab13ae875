-- What the plain words ask for, and some words with what they ask for.
use Rattle.std.specs.Prelude.{◌≡◌, ◌<◌, ◌^◌, ℕ, List, [], ◌∷◌, ◌++◌, ⊤, IfSome, Option, None, Some, codes, decimal}
use Rattle.sect_base.specs.declared.ids.SectionId.{SectionId}
use Rattle.sect_base.specs.declared.ids.StudentId.{StudentId}
use Rattle.sect_clerk_words.specs.declared.verb.Topic.TheVariants as topics
use Rattle.sect_clerk_words.specs.declared.verb.Verb.{Verb}
use Rattle.sect_clerk_words.specs.declared.verb.Verb.TheVariants as verbs
use Rattle.sect_clerk_words.specs.declared.words.Words.{Words}
use Rattle.sect_clerk_words.specs.declared.words.Words.TheVariants as asked
use Rattle.sect_clerk_words.specs.Grammar.{words_of}

-- the word of a command
abbrev pub verb_word : Verb → List ℕ
verb_word verbs.Check = codes "check"
verb_word verbs.Demand = codes "demand"
verb_word verbs.Explain = codes "explain"
verb_word verbs.Log = codes "log"
verb_word verbs.Timetable = codes "timetable"
verb_word verbs.Try = codes "try"

-- the words that name a student, where there is one
abbrev pub student_words : Option StudentId → List (List ℕ)
student_words None = []
student_words (Some student) = codes "--student" ∷ decimal student.0 ∷ []

-- the words that name a section, where there is one
abbrev pub section_words : Option SectionId → List (List ℕ)
section_words None = []
section_words (Some section) = codes "--section" ∷ decimal section.0 ∷ []

-- the plain words that ask for it
abbrev pub word_list : Words → List (List ℕ)
word_list asked.Check = codes "check" ∷ []
word_list asked.Demand = codes "demand" ∷ []
word_list (asked.Explain place) = codes "explain" ∷ decimal place ∷ []
word_list (asked.Log student section from) = codes "log" ∷ (student_words student ++ (section_words section ++ codes "--from" ∷ decimal from ∷ []))
word_list (asked.Timetable student) = codes "timetable" ∷ decimal student.0 ∷ []
word_list asked.Try = codes "try" ∷ []
word_list (asked.Help topics.Clerk) = codes "--help" ∷ []
word_list (asked.Help (topics.Command verb)) = verb_word verb ∷ codes "--help" ∷ []
word_list asked.Version = codes "--version" ∷ []

-- it may be asked for: its numbers have 32 bits
abbrev pub MayBeAsked : Words → Type 0
MayBeAsked asked.Check = ⊤
MayBeAsked asked.Demand = ⊤
MayBeAsked (asked.Explain place) = place < 2 ^ 32
MayBeAsked (asked.Log student section from) = IfSome student (λ s. s.0 < 2 ^ 32) × IfSome section (λ s. s.0 < 2 ^ 32) × (from < 2 ^ 32)
MayBeAsked (asked.Timetable student) = student.0 < 2 ^ 32
MayBeAsked asked.Try = ⊤
MayBeAsked (asked.Help topic) = ⊤
MayBeAsked asked.Version = ⊤

-- whatever may be asked for is asked for by its plain words
abbrev pub PlainWords : Type 0
PlainWords = (words : Words) → MayBeAsked words → words_of (word_list words) ≡ Some words

-- nothing is asked for
abbrev pub no_words : Option Words
no_words = None

-- some lists of words, with what they ask for
pub record Worked : Type 0 where
  pub check : words_of (codes "check" ∷ []) ≡ Some asked.Check
  pub demand : words_of (codes "demand" ∷ codes "--journal" ∷ codes "f" ∷ []) ≡ Some asked.Demand
  pub help : words_of (codes "--help" ∷ []) ≡ Some (asked.Help topics.Clerk)
  pub more : words_of (codes "timetable" ∷ codes "--help" ∷ []) ≡ Some (asked.Help (topics.Command verbs.Timetable))
  pub version : words_of (codes "--version" ∷ []) ≡ Some asked.Version
  pub extra : words_of (codes "check" ∷ codes "it" ∷ []) ≡ no_words
  pub kept : words_of (codes "check" ∷ codes "--db=f" ∷ []) ≡ no_words
  pub twice : words_of (codes "demand" ∷ codes "--db=f" ∷ codes "--journal=g" ∷ []) ≡ no_words
  pub nobody : words_of (codes "timetable" ∷ codes "--db=f" ∷ []) ≡ no_words
  pub nowhere : words_of (codes "explain" ∷ codes "--db=f" ∷ []) ≡ no_words
  pub log : words_of (codes "log" ∷ codes "--db=f" ∷ []) ≡ Some (asked.Log None None 0)
  pub alone : words_of (codes "log" ∷ codes "11" ∷ []) ≡ no_words
  pub valueless : words_of (codes "log" ∷ codes "--student" ∷ []) ≡ no_words
  pub froms : words_of (codes "log" ∷ codes "--from=2" ∷ codes "--from=3" ∷ []) ≡ no_words
  pub from : words_of (codes "demand" ∷ codes "--from=2" ∷ []) ≡ no_words
  pub «try» : words_of (codes "try" ∷ codes "--journal=f" ∷ []) ≡ Some asked.Try
  pub tried : words_of (codes "try" ∷ codes "it" ∷ []) ≡ no_words
  pub run : words_of (codes "run" ∷ []) ≡ no_words
  pub none : words_of [] ≡ no_words
