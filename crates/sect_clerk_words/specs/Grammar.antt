-- What the words of the clerk's command line ask for.
use Rattle.std.specs.Prelude.{ℕ, ◌||◌, Bool, false, List, if◌then◌else◌, Option, None, Some, codes, option_map}
use Rattle.std.specs.Str.{bytes_eq}
use Rattle.sect_usage.specs.Items.{Item, positionals, value_of}
use Rattle.sect_usage.specs.Needs.{Named, items_behind, named_by}
use Rattle.sect_usage.specs.Options.{is_keeper, the_one, where_none}
use Rattle.sect_usage.specs.Programs.{Program, words_in}
use Rattle.sect_words.specs.Reading.{◌>>=◌}
use Rattle.sect_words.specs.ReadingWords.{section_of, student_of, u32_of}
use Rattle.sect_base.specs.declared.ids.SectionId.{SectionId}
use Rattle.sect_base.specs.declared.ids.StudentId.{StudentId}
use Rattle.sect_clerk_words.specs.declared.verb.Verb.{Verb}
use Rattle.sect_clerk_words.specs.declared.verb.Verb.TheVariants as verbs
use Rattle.sect_clerk_words.specs.declared.verb.Topic.TheVariants as topics
use Rattle.sect_clerk_words.specs.declared.words.Words.{Words}
use Rattle.sect_clerk_words.specs.declared.words.Words.TheVariants as asked

-- the command of a word
unfoldable pub verb_of : List ℕ → Option Verb
verb_of word =
    if bytes_eq word (codes "check") then Some verbs.Check else
    (if bytes_eq word (codes "demand") then Some verbs.Demand else
    (if bytes_eq word (codes "explain") then Some verbs.Explain else
    (if bytes_eq word (codes "log") then Some verbs.Log else
    (if bytes_eq word (codes "timetable") then Some verbs.Timetable else
    (if bytes_eq word (codes "try") then Some verbs.Try else None)))))

-- the option says which entries a log tells
abbrev pub is_of_log : List ℕ → Bool
is_of_log name = bytes_eq name (codes "student") || (bytes_eq name (codes "section") || bytes_eq name (codes "from"))

-- the command has the option
unfoldable pub takes : Verb → List ℕ → Bool
takes verbs.Check name = false
takes verbs.Demand name = is_keeper name
takes verbs.Explain name = is_keeper name
takes verbs.Log name = is_keeper name || is_of_log name
takes verbs.Timetable name = is_keeper name
takes verbs.Try name = is_keeper name

-- what `explain` asks for
abbrev pub explain_of : List Item → Option Words
explain_of items = option_map asked.Explain (the_one (positionals items) >>= u32_of)

-- a student, where there is a word
abbrev pub student_named : Option (List ℕ) → Option (Option StudentId)
student_named None = Some None
student_named (Some word) = option_map Some (student_of word)

-- a section, where there is a word
abbrev pub section_named : Option (List ℕ) → Option (Option SectionId)
section_named None = Some None
section_named (Some word) = option_map Some (section_of word)

-- a place, and the first where there is no word
abbrev pub place_or_first : Option (List ℕ) → Option ℕ
place_or_first None = Some 0
place_or_first (Some word) = u32_of word

-- what `log` asks for: the entries from the first place on, of all students and sections, where they aren't named
abbrev pub log_of : List Item → Option Words
log_of items = do
  student ← student_named (value_of (codes "student") items)
  section ← section_named (value_of (codes "section") items)
  from ← place_or_first (value_of (codes "from") items)
  Some (asked.Log student section from)

-- what `timetable` asks for
abbrev pub timetable_of : List Item → Option Words
timetable_of items = option_map asked.Timetable (the_one (positionals items) >>= student_of)

-- what a command asks for by items that it allows
unfoldable pub asked_for : Verb → List Item → Option Words
asked_for verbs.Check items = where_none (Some asked.Check) (positionals items)
asked_for verbs.Demand items = where_none (Some asked.Demand) (positionals items)
asked_for verbs.Explain items = explain_of items
asked_for verbs.Log items = where_none (log_of items) (positionals items)
asked_for verbs.Timetable items = timetable_of items
asked_for verbs.Try items = where_none (Some asked.Try) (positionals items)

-- the words of the clerk
abbrev pub clerk_words : Program Verb Words
clerk_words = record {
  verb_of = verb_of;
  takes = takes;
  asked_for = asked_for;
  help_on = λ verb. asked.Help (topics.Command verb);
  help = asked.Help topics.Clerk;
  version = asked.Version;
}

-- what the words ask for
abbrev pub words_of : List (List ℕ) → Option Words
words_of words = words_in clerk_words words

-- the files of the keepers that the words name, where they are in the grammar
abbrev pub files_of : List (List ℕ) → Option Named
files_of words = option_map (λ _. named_by (items_behind words)) (words_of words)
