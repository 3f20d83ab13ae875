-- What the words of a program's command line ask for, whichever its commands are.
use Rattle.std.specs.Prelude.{ℕ, ◌&&◌, Bool, List, [], ◌∷◌, if◌then◌else◌, Option, None, Some, codes}
use Rattle.std.specs.Str.{bytes_eq}
use Rattle.sect_usage.specs.Items.{Item, items_of}
use Rattle.sect_usage.specs.Options.{allows, is_help, one_keeper, where_none}

-- the grammar of a program's words: the command of a word, the options that a command has, what it asks for by items that it
-- allows, the help on it, the help on the whole program, and the version
pub record Program (V A : Type 0) : Type 0 where
  pub verb_of : List ℕ → Option V
  pub takes : V → List ℕ → Bool
  pub asked_for : V → List Item → Option A
  pub help_on : V → A
  pub help : A
  pub version : A

-- what a command asks for by these items
abbrev pub asked_by : {V A : Type 0} → Program V A → V → List Item → Option A
asked_by p verb items = if allows (p.takes verb) items && one_keeper items then p.asked_for verb items else None

-- a word that stands in place of a command
abbrev pub lone_of : {V A : Type 0} → Program V A → List ℕ → Option A
lone_of p word =
    if bytes_eq word (codes "--help") then Some p.help else
    (if bytes_eq word (codes "--version") then Some p.version else None)

-- what the words ask for, by the command that the first is, where it is one
abbrev pub words_by : {V A : Type 0} → Program V A → Option V → List ℕ → List (List ℕ) → Option A
words_by p None word words = where_none (lone_of p word) words
words_by p (Some verb) word words = if is_help words then Some (p.help_on verb) else asked_by p verb (items_of words)

-- what the words ask for
abbrev pub words_in : {V A : Type 0} → Program V A → List (List ℕ) → Option A
words_in p [] = None
words_in p (word ∷ words) = words_by p (p.verb_of word) word words
