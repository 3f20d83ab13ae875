-- Elements filed by a number, those of each number by themselves.
use Rattle.std.specs.Prelude.{◌≡◌, ◌<◌, ◌+◌, ℕ, Bool, true, ◌&&◌, ◌==◌, nat_lt, cond, List, [], ◌∷◌, map, flat_map, length, filter, insert, slice_index_or}
use Rattle.std.specs.List.{list_all}
use Rattle.sect_people.specs.Index.{rank}

-- ---- what a caller sees

-- how many elements of a number fit before memory is asked for
pub record Room : Type 0 where
  pub number : ℕ
  pub capacity : ℕ

-- the elements in order of their numbers, and the rooms of the numbers that have some
pub record InSlots (X : Type 0) : Type 0 where
  pub items : List X
  pub rooms : List Room

-- how many elements of a number fit; none where it has no room
abbrev pub capacity_of : List Room → ℕ → ℕ
capacity_of [] n = 0
capacity_of (r ∷ rs) n = cond (r.number == n) r.capacity (capacity_of rs n)

-- the elements of a number, the earliest first
abbrev pub rows_of : {X : Type 0} → (X → ℕ) → ℕ → List X → List X
rows_of key n xs = filter (λ x. key x == n) xs

-- how many elements a number has
abbrev pub number_of : {X : Type 0} → (X → ℕ) → ℕ → List X → ℕ
number_of key n xs = length (rows_of key n xs)

-- with an element behind so many others of its number
abbrev pub put_among : {X : Type 0} → (X → ℕ) → ℕ → X → List X → List X
put_among key place x xs = insert xs (rank key (key x) xs + place) x

-- ---- slots

-- the elements of a number, the earliest first, and how many fit before memory is asked for
pub record Slotted (X : Type 0) : Type 0 where
  pub number : ℕ
  pub items : List X
  pub capacity : ℕ

-- the element is of the number
abbrev pub is_of : {X : Type 0} → (X → ℕ) → ℕ → X → Bool
is_of key n x = key x == n

-- the elements of all slots
abbrev pub all_held : {X : Type 0} → List (Slotted X) → List X
all_held slots = flat_map (λ s. s.items) slots

-- the room of a slot
abbrev pub room_of : {X : Type 0} → Slotted X → Room
room_of s = record { number = s.number; capacity = s.capacity }

-- the rooms of all slots
abbrev pub all_rooms : {X : Type 0} → List (Slotted X) → List Room
all_rooms slots = map room_of slots

-- how many elements of a number fit
abbrev pub capacity_in : {X : Type 0} → List (Slotted X) → ℕ → ℕ
capacity_in slots n = capacity_of (all_rooms slots) n

-- the slots stand in rising order of their numbers, and each has elements of its number alone
abbrev pub are_slots : {X : Type 0} → (X → ℕ) → List (Slotted X) → Bool
are_slots key [] = true
are_slots key (s ∷ ss) = list_all (is_of key s.number) s.items && (list_all (λ t. nat_lt s.number t.number) ss && are_slots key ss)

-- the slot of a number stands at the place
abbrev pub HasSlot : {X : Type 0} → List (Slotted X) → ℕ → ℕ → Type 0
HasSlot {X = X} slots n k = (k < length slots) × ((d : Slotted X) → (slice_index_or slots k d).number ≡ n)
