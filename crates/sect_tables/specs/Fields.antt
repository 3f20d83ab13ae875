-- The fields of a row, counted from 1.
use Rattle.std.specs.Prelude.{ℕ, zero, suc, ◌==◌, List, [], Option, None, Some, Result, Err, length, if◌then◌else◌}
use Rattle.csv.specs.Records.{field_at}

-- the bytes, where there are some
abbrev pub or_nothing : Option (List ℕ) → List ℕ
or_nothing None = []
or_nothing (Some bytes) = bytes

-- the bytes of the field with this number, and nothing where there is none
unfoldable pub field_of : List (List ℕ) → ℕ → List ℕ
field_of fields zero = []
field_of fields (suc place) = or_nothing (field_at fields place)

-- what a row of so many fields says; 0 is told of a row of another length
abbrev pub of_length : {A : Type 0} → ℕ → List (List ℕ) → Result A ℕ → Result A ℕ
of_length many fields line = if length fields == many then line else Err 0
