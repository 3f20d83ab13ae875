-- Numbers in digits.
use Rattle.std.specs.Prelude.{ℕ, ◌+◌, ◌/◌, ◌%◌, List, [], ◌∷◌, nat_lt, if◌then◌else◌}

-- a number below 100 in two digits
abbrev pub two_digits : ℕ → List ℕ
two_digits n = (48 + n / 10) ∷ (48 + n % 10) ∷ []

-- a number below 100 with no zero in front
abbrev pub short_digits : ℕ → List ℕ
short_digits n = (if nat_lt n 10 then (48 + n) ∷ [] else two_digits n)
