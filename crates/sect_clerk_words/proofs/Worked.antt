-- What some words ask for, and the plain ones, by the definitions.
use Rattle.std.proofs.Common.{◌≡◌, ◌==◌, ◌<◌, ◌^◌, ℕ, Bool, true, false, List, [], ◌∷◌, Option, None, Some, codes, decimal, refl, arith}
use Rattle.sect_base.specs.declared.ids.SectionId.{SectionId}
use Rattle.sect_base.specs.declared.ids.StudentId.{StudentId}
use Rattle.sect_usage.proofs.SpellingLaws.{no_help, number_plain, positional_word, read_id, value_word}
use Rattle.sect_usage.specs.Items.{option, option_by}
use Rattle.sect_clerk_words.specs.declared.verb.Topic.TheVariants as topics
use Rattle.sect_clerk_words.specs.declared.verb.Verb.TheVariants as verbs
use Rattle.sect_clerk_words.specs.declared.words.Words.TheVariants as asked
use Rattle.sect_clerk_words.specs.Grammar.{asked_for, takes, verb_of, words_of}
use Rattle.sect_clerk_words.specs.Laws.{MayBeAsked, PlainWords, Worked, word_list}

pub worked : Worked
unfolding verb_of asked_for takes
worked = record {
  check = refl;
  demand = refl;
  help = refl;
  more = refl;
  version = refl;
  extra = refl;
  kept = refl;
  twice = refl;
  nobody = refl;
  nowhere = refl;
  log = refl;
  alone = refl;
  valueless = refl;
  froms = refl;
  from = refl;
  «try» = refl;
  tried = refl;
  run = refl;
  none = refl;
}

-- the option of a number of 32 bits is read
number_value : (name : List ℕ) (n : ℕ) → n < 2 ^ 32 → option_by name (decimal n) ≡ option name (decimal n)
number_value name n fits = value_word name (decimal n) (number_plain n (omega (arith, fits)))

log_words : (student : Option StudentId) (section : Option SectionId) (from : ℕ) → MayBeAsked (asked.Log student section from)
    → words_of (word_list (asked.Log student section from)) ≡ Some (asked.Log student section from)
unfolding verb_of asked_for takes
log_words None None from may = rw (number_value (codes "from") from may.2, read_id from may.2) refl
log_words (Some student) None from may =
    rw (number_value (codes "student") student.0 may.0, read_id student.0 may.0, number_value (codes "from") from may.2, read_id from may.2) refl
log_words None (Some section) from may =
    rw (number_value (codes "section") section.0 may.1, read_id section.0 may.1, number_value (codes "from") from may.2, read_id from may.2) refl
log_words (Some student) (Some section) from may =
    rw (
      number_value (codes "student") student.0 may.0,
      read_id student.0 may.0,
      number_value (codes "section") section.0 may.1,
      read_id section.0 may.1,
      number_value (codes "from") from may.2,
      read_id from may.2,
    ) refl

pub plain_words : PlainWords
unfolding verb_of asked_for takes
plain_words asked.Check may = refl
plain_words asked.Demand may = refl
plain_words (asked.Explain place) may =
    let plain = number_plain place (omega (arith, may)) in
    rw (no_help (decimal place) plain, positional_word (decimal place) [] plain, read_id place may) refl
plain_words (asked.Log student section from) may = log_words student section from may
plain_words (asked.Timetable student) may =
    let plain = number_plain student.0 (omega (arith, may)) in
    rw (no_help (decimal student.0) plain, positional_word (decimal student.0) [] plain, read_id student.0 may) refl
plain_words asked.Try may = refl
plain_words (asked.Help topics.Clerk) may = refl
plain_words (asked.Help (topics.Command verbs.Check)) may = refl
plain_words (asked.Help (topics.Command verbs.Demand)) may = refl
plain_words (asked.Help (topics.Command verbs.Explain)) may = refl
plain_words (asked.Help (topics.Command verbs.Log)) may = refl
plain_words (asked.Help (topics.Command verbs.Timetable)) may = refl
plain_words (asked.Help (topics.Command verbs.Try)) may = refl
plain_words asked.Version may = refl
