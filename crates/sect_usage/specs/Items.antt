-- The words behind a command, cut into items.
use Rattle.std.specs.Prelude.{ℕ, ◌==◌, ◌+◌, if◌then◌else◌, List, [], ◌∷◌, drop, position, take, Option, None, Some}
use Rattle.std.specs.Str.{bytes_eq}
use Rattle.sect_words.specs.ReadingWords.{is_nothing}

-- a word that stands alone, an option with its value, or a word that is neither
pub data Item : Type 0 where
  positional : List ℕ → Item
  option : List ℕ → List ℕ → Item
  bad : Item

-- a word by itself: an item, or the name of an option whose value is the next word
pub data Cut : Type 0 where
  whole : Item → Cut
  named : List ℕ → Cut

-- an option whose name and value stand in one word
abbrev pub option_with : List ℕ → List ℕ → Item
option_with name value = if is_nothing name then bad else (if is_nothing value then bad else option name value)

-- the place of the first `=`, which is 61
abbrev pub equals_at : List ℕ → Option ℕ
equals_at text = position (λ byte. byte == 61) text

-- what stands behind two dashes, with the place of its first `=`
abbrev pub option_cut : List ℕ → Option ℕ → Cut
option_cut text None = if is_nothing text then whole bad else named text
option_cut text (Some at) = whole (option_with (take at text) (drop (at + 1) text))

-- a word behind its first dash, which is 45
abbrev pub dashed_cut : List ℕ → Cut
dashed_cut [] = whole bad
dashed_cut (b ∷ bs) = if b == 45 then option_cut bs (equals_at bs) else whole bad

-- a word
abbrev pub cut_of : List ℕ → Cut
cut_of [] = whole bad
cut_of (b ∷ bs) = if b == 45 then dashed_cut bs else whole (positional (b ∷ bs))

-- an option whose value is a word of its own, which isn't empty and doesn't begin with a dash
abbrev pub option_by : List ℕ → List ℕ → Item
option_by name [] = bad
option_by name (b ∷ bs) = if b == 45 then bad else option name (b ∷ bs)

-- the item that begins with a word, and those behind it
abbrev pub items_from : Cut → (Option (List ℕ) → List Item) → List Item
items_from (whole item) behind = item ∷ behind None
items_from (named name) behind = behind (Some name)

-- the items of words, the first of which is the value of this option where there is a name
abbrev pub items_by : List (List ℕ) → Option (List ℕ) → List Item
items_by [] None = []
items_by [] (Some name) = bad ∷ []
items_by (word ∷ words) None = items_from (cut_of word) (λ name. items_by words name)
items_by (word ∷ words) (Some name) = option_by name word ∷ items_by words None

-- the items of words
abbrev pub items_of : List (List ℕ) → List Item
items_of words = items_by words None

-- an item in front of others, where there is one
abbrev pub items_with : Option (Item × List Item) → List Item
items_with None = []
items_with (Some f) = f.0 ∷ f.1

-- the first value of an option of this name
abbrev pub value_of : List ℕ → List Item → Option (List ℕ)
value_of name [] = None
value_of name (positional word ∷ items) = value_of name items
value_of name (option other value ∷ items) = if bytes_eq other name then Some value else value_of name items
value_of name (bad ∷ items) = value_of name items

-- the words that stand alone
abbrev pub positionals : List Item → List (List ℕ)
positionals [] = []
positionals (positional word ∷ items) = word ∷ positionals items
positionals (option name value ∷ items) = positionals items
positionals (bad ∷ items) = positionals items

-- a word in front of others, where there is one
abbrev pub positionals_with : Option (List ℕ × List (List ℕ)) → List (List ℕ)
positionals_with None = []
positionals_with (Some f) = f.0 ∷ f.1
