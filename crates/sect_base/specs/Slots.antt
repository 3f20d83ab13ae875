-- Slots by place, each with a value or with none.
use Rattle.std.specs.Prelude.{◌≡◌, ℕ, ◌==◌, Bool, cond, List, Option, Some, None, slice_get}
use Rattle.std.specs.Option.{option_and_then}

-- the value in the slot at a place
abbrev pub slot_at : {V : Type 0} → List (Option V) → ℕ → Option V
slot_at slots n = option_and_then (λ v. v) (slice_get slots n)

-- each place has what it had
abbrev pub SlotsStay : {V : Type 0} → List (Option V) → List (Option V) → Type 0
SlotsStay old new = (n : ℕ) → slot_at new n ≡ slot_at old n

-- the place has the value, and the others have what they had
abbrev pub SlotsPut : {V : Type 0} → List (Option V) → List (Option V) → ℕ → V → Type 0
SlotsPut old new place value = (n : ℕ) → slot_at new n ≡ cond (place == n) (Some value) (slot_at old n)

-- the place has nothing, and the others have what they had
abbrev pub SlotsClear : {V : Type 0} → List (Option V) → List (Option V) → ℕ → Type 0
SlotsClear old new place = (n : ℕ) → slot_at new n ≡ cond (place == n) None (slot_at old n)

-- the value, where it passes
abbrev pub kept : {V : Type 0} → (V → Bool) → Option V → Option V
kept passes None = None
kept passes (Some v) = cond (passes v) (Some v) None

-- each place has what it had, where that passes
abbrev pub SlotsKeep : {V : Type 0} → (V → Bool) → List (Option V) → List (Option V) → Type 0
SlotsKeep passes old new = (n : ℕ) → slot_at new n ≡ kept passes (slot_at old n)
