-- The place of each key in a list, and the table of slots in which it is found.
use Rattle.std.specs.Prelude.{◌≡◌, ℕ, zero, suc, ◌+◌, ◌-◌, ◌*◌, ◌/◌, ◌%◌, ◌^◌, ◌<◌, ◌≤◌, ◌==◌, nat_lt, cond, List, [], ◌∷◌, length, slice_index, Option, None, Some, option_map}

-- the keys in the order of their coming, and how many there is room for
pub record Listed : Type 0 where
  pub keys : List ℕ
  pub capacity : ℕ

-- the position of the first such key
abbrev pub placed : List ℕ → ℕ → Option ℕ
placed [] q = None
placed (k ∷ ks) q = cond (k == q) (Some 0) (option_map (λ p. 1 + p) (placed ks q))

-- the first slot tried for a key, of so many
unfoldable pub start_of : ℕ → ℕ → ℕ
start_of key slots = ((key % 2 ^ 64 + (key / 2 ^ 64 * 11400714819323198485) % 2 ^ 64) % 2 ^ 64 * 15241094284759029579) % 2 ^ 64 / 2 ^ 32 * slots / 2 ^ 32

-- the slot tried behind so many others: the first stands behind the last
abbrev pub tried : ℕ → ℕ → ℕ → ℕ
tried slots start tries = cond (nat_lt (start + tries) slots) (start + tries) (start + tries - slots)

-- what stands in the slot tried for a key behind so many others
unfoldable pub slot_for : List ℕ → ℕ → ℕ → ℕ
slot_for slots key tries = slice_index slots (tried (length slots) (start_of key (length slots)) tries)

-- each of so many slots tried for a key is taken
abbrev pub AreTaken : List ℕ → ℕ → ℕ → Type 0
AreTaken slots key tries = (d : ℕ) → d < tries → slot_for slots key d ≡ 0 → ⊥

-- each of so many slots tried for a key is another key's
abbrev pub AreOthers : List ℕ → List ℕ → ℕ → ℕ → Type 0
AreOthers keys slots key tries = (d : ℕ) → d < tries → slice_index keys (slot_for slots key d - 1) ≡ key → ⊥

-- the place of a key is met, and no free slot before it
pub record IsMet (slots : List ℕ) (key place : ℕ) : Type 0 where
  pub tries : ℕ
  pub within : tries < length slots
  pub there : slot_for slots key tries ≡ 1 + place
  pub taken : AreTaken slots key tries

-- the first free slot that is tried for a key
pub record IsFree (slots : List ℕ) (key at : ℕ) : Type 0 where
  pub tries : ℕ
  pub within : tries < length slots
  pub there : at ≡ tried (length slots) (start_of key (length slots)) tries
  pub inside : at < length slots
  pub free : slot_for slots key tries ≡ 0
  pub taken : AreTaken slots key tries

-- how many slots are taken
abbrev pub taken : List ℕ → ℕ
taken [] = 0
taken (zero ∷ slots) = taken slots
taken (suc place ∷ slots) = 1 + taken slots

-- each key's place is met, and as many slots are taken as there are keys
pub record IsTable (keys slots : List ℕ) : Type 0 where
  pub met : (place : ℕ) → place < length keys → IsMet slots (slice_index keys place) place
  pub small : (at : ℕ) → slice_index slots at ≤ length keys
  pub count : taken slots ≡ length keys

-- each key stands once
abbrev pub AreOnce : List ℕ → Type 0
AreOnce keys = (place : ℕ) → place < length keys → placed keys (slice_index keys place) ≡ Some place

-- what the fields of a list of places keep
pub record ArePlaces (keys slots : List ℕ) : Type 0 where
  pub table : IsTable keys slots
  pub once : AreOnce keys
  pub few : length slots ≤ 2 ^ 31
