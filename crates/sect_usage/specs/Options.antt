-- What the words behind a command hold, whichever the command is.
use Rattle.std.specs.Prelude.{ℕ, ◌&&◌, ◌||◌, Bool, true, false, not, List, [], ◌∷◌, Option, None, Some, codes}
use Rattle.std.specs.Str.{bytes_eq}
use Rattle.sect_usage.specs.Items.{Item, positional, option, bad, value_of}

-- the option names a keeper
abbrev pub is_keeper : List ℕ → Bool
is_keeper name = bytes_eq name (codes "db") || bytes_eq name (codes "journal")

-- there is a value
abbrev pub is_given : Option (List ℕ) → Bool
is_given None = false
is_given (Some value) = true

-- each word is an item, and each option is a known one that stands once
abbrev pub allows : (List ℕ → Bool) → List Item → Bool
allows known [] = true
allows known (positional word ∷ items) = allows known items
allows known (option name value ∷ items) = known name && (not (is_given (value_of name items)) && allows known items)
allows known (bad ∷ items) = false

-- not both keepers are named
abbrev pub one_keeper : List Item → Bool
one_keeper items = not (is_given (value_of (codes "db") items) && is_given (value_of (codes "journal") items))

-- the value, where no words are left
abbrev pub where_none : {A : Type 0} → Option A → List (List ℕ) → Option A
where_none value [] = value
where_none value (word ∷ words) = None

-- the word, where it is the only one
abbrev pub the_one : List (List ℕ) → Option (List ℕ)
the_one [] = None
the_one (word ∷ words) = where_none (Some word) words

-- the words are `--help` alone
abbrev pub is_help : List (List ℕ) → Bool
is_help [] = false
is_help (word ∷ []) = bytes_eq word (codes "--help")
is_help (word ∷ (other ∷ words)) = false
