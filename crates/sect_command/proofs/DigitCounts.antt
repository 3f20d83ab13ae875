-- How long a number's digits are.
use Rattle.std.proofs.Common.{ℕ, ◌<◌, ◌≤◌, ◌^◌, length, decimal, arith}
use Rattle.std.proofs.lemmas.Fmt.{length-decimal-le}

-- a number of 32 bits has ten digits at most
pub ten_digits : (n : ℕ) → n < 2 ^ 32 → length (decimal n) ≤ 10
ten_digits n below = length-decimal-le 10 n (omega arith) (omega (arith, below)) (omega (arith, below))

-- a number of 64 bits has twenty digits at most
pub twenty_digits : (n : ℕ) → n < 2 ^ 64 → length (decimal n) ≤ 20
twenty_digits n below = length-decimal-le 20 n (omega arith) (omega (arith, below)) (omega (arith, below))
