-- The text of a meeting's time of day.
use Rattle.std.specs.Prelude.{◌≡◌, ℕ, ◌*◌, ◌/◌, ◌%◌, ◌<◌, List, ◌∷◌, ◌+◌, ◌++◌, slice_index}
use Rattle.sect_base.specs.Digits.{two_digits}

-- `HHMM` at which a slot begins
abbrev pub clock_text : ℕ → List ℕ
clock_text slot = two_digits (slot / 12) ++ two_digits (5 * (slot % 12))

-- `HHMM-HHMM`, from the slot `start` until before the slot `end`
unfoldable pub time_text : ℕ → ℕ → List ℕ
time_text start end = clock_text start ++ 45 ∷ clock_text end

-- the text says these slots, of which the first is of the day and the end may be any up to 99:55
pub record IsTimeText (text : List ℕ) (start end : ℕ) : Type 0 where
  pub begins : start < 288
  pub hours : end < 1200
  pub is_text : text ≡ time_text start end

-- the four digits from this place on are those of the slot
pub record IsClockAt (text : List ℕ) (at slot : ℕ) : Type 0 where
  pub hour_tens : slice_index text at ≡ 48 + slot / 12 / 10
  pub hour_ones : slice_index text (at + 1) ≡ 48 + slot / 12 % 10
  pub minute_tens : slice_index text (at + 2) ≡ 48 + 5 * (slot % 12) / 10
  pub minute_ones : slice_index text (at + 3) ≡ 48 + 5 * (slot % 12) % 10
