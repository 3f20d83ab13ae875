-- A week's calendar: which of the 288 slots of each of the seven days are taken. A day has five words of 64 bits.
use Rattle.std.specs.Prelude.{◌≡◌, ℕ, ◌+◌, ◌*◌, ◌/◌, ◌%◌, List, Bool, true, false, ◌&&◌, ◌==◌, IsTrue, slice_index}
use Rattle.sect_base.specs.Pattern.{Pattern, has_bit, takes_slot}

-- whether the slot of this day is taken
unfoldable pub is_set : List ℕ → ℕ → ℕ → Bool
is_set words day slot = has_bit (slice_index words (5 * day + slot / 64)) (slot % 64)

-- whether this slot of this weekday is one of the meeting's
abbrev pub takes_pair : Pattern → ℕ → ℕ → Bool
takes_pair p day slot = has_bit p.days day && takes_slot p slot

-- whether this slot of this day has its bit among those of the word with this number, on one of the days
abbrev pub is_of_word : ℕ → ℕ → ℕ → ℕ → ℕ → Bool
is_of_word days word bits day slot = has_bit days day && slot / 64 == word && has_bit bits (slot % 64)

-- none of the meeting's pairs is set
abbrev pub IsClearFor : List ℕ → Pattern → Type 0
IsClearFor words p = (day slot : ℕ) → IsTrue (takes_pair p day slot) → is_set words day slot ≡ false

-- all of the meeting's pairs are set
abbrev pub HasPairsOf : List ℕ → Pattern → Type 0
HasPairsOf words p = (day slot : ℕ) → IsTrue (takes_pair p day slot) → is_set words day slot ≡ true
