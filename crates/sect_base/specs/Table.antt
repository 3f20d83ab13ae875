-- Values by numbers.
use Rattle.std.specs.Prelude.{◌≡◌, ℕ, ◌==◌, Bool, cond, nat_eq, Option, Some, None}
use Rattle.std.specs.Option.{option_or}
use Rattle.std.specs.HashMap.{get}
use Rattle.sect_base.specs.declared.table.Table.{Table}
use Rattle.sect_base.specs.Slots.{slot_at, kept}

-- the value of a number
unfoldable pub value_at : {V : Type 0} → Table V → ℕ → Option V
value_at t n = option_or (slot_at t.slots.items n) (get nat_eq t.others n)

-- each number has what it had
abbrev pub Stays : {V : Type 0} → Table V → Table V → Type 0
Stays old new = (n : ℕ) → value_at new n ≡ value_at old n

-- the number has the value, and the others have what they had
abbrev pub Puts : {V : Type 0} → Table V → Table V → ℕ → V → Type 0
Puts old new number value = (n : ℕ) → value_at new n ≡ cond (number == n) (Some value) (value_at old n)

-- the number has no value, and the others have what they had
abbrev pub Removes : {V : Type 0} → Table V → Table V → ℕ → Type 0
Removes old new number = (n : ℕ) → value_at new n ≡ cond (number == n) None (value_at old n)

-- each number has what it had, where that passes
abbrev pub Keeps : {V : Type 0} → (V → Bool) → Table V → Table V → Type 0
Keeps passes old new = (n : ℕ) → value_at new n ≡ kept passes (value_at old n)
