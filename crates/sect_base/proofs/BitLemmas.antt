-- Bits of a word.
use Rattle.std.specs.Prelude.{◌≡◌, ◌↔◌, IsTrue, ℕ, ◌-◌, ◌*◌, ◌%◌, ◌<◌, ◌≤◌, ◌^◌, Bool, true, false, not, ◌&&◌, ◌||◌, ◌==◌, nat_lt, bit_and, bit_or, min, ◌⊎◌, refl}
use Rattle.std.specs.Int.{bit_at, trailing_zeros, w64}
use Rattle.std.proofs.Common.{sym, ap, ◌∙◌, arith, inl, inr}
use Rattle.std.proofs.Math.Nat.{pos_of_ne-zero}
use Rattle.std.proofs.lemmas.Nat.Bits.{bit_at_and, bit_at_or, bit_at_not, bit_at-lt, bit_at-zero, bit_at_ones, bit_at_ones_above, bit_at-trailing_zeros}
use Rattle.std.proofs.lemmas.Nat.{one_shl, and_le_l}
use Rattle.std.proofs.lemmas.Bool.{cases_lt}
use Rattle.std.proofs.lemmas.Bool.Decides.{nat_tests}
use Rattle.sect_base.specs.Pattern.{has_bit}

-- a set bit, as a number
pub has_bit-one : (n k : ℕ) → IsTrue (has_bit n k) ↔ (bit_at n k ≡ 1)
has_bit-one n k = (λ set. grind (arith, nat_tests), λ one. grind (arith, nat_tests))

pub has_bit-from : (n k : ℕ) (b : Bool) → ((b ≡ true) → bit_at n k ≡ 1) → ((b ≡ false) → bit_at n k ≡ 0) → has_bit n k ≡ b
has_bit-from n k true one other = grind (arith, nat_tests, one refl)
has_bit-from n k false one other = grind (arith, nat_tests, other refl)

pub has_bit-zero : (k : ℕ) → has_bit 0 k ≡ false
has_bit-zero k = grind (arith, nat_tests, bit_at-zero k)

pub has_bit-or : (a b k : ℕ) → has_bit (bit_or a b) k ≡ (has_bit a k || has_bit b k)
has_bit-or a b k = grind (arith, nat_tests, bit_at_or a b k, bit_at-lt a k, bit_at-lt b k)

pub has_bit-and : (a b k : ℕ) → has_bit (bit_and a b) k ≡ (has_bit a k && has_bit b k)
has_bit-and a b k = grind (arith, nat_tests, bit_at_and a b k, bit_at-lt a k, bit_at-lt b k)

pub has_bit-not : (n k : ℕ) → n < 2 ^ 64 → k < 64 → has_bit (2 ^ 64 - 1 - n) k ≡ not (has_bit n k)
has_bit-not n k small within = grind (arith, nat_tests, bit_at_not w64 n k small within, bit_at-lt n k)

-- the lowest bits, so many
pub has_bit-ones : (count k : ℕ) → has_bit (2 ^ count - 1) k ≡ nat_lt k count
has_bit-ones count k = by_order (cases_lt k count)
  where
    by_order : (k < count) ⊎ (count ≤ k) → has_bit (2 ^ count - 1) k ≡ nat_lt k count
    by_order (inl less) = grind (arith, nat_tests, bit_at_ones count k less)
    by_order (inr more) = grind (arith, nat_tests, bit_at_ones_above count k more)

pub shifted_ones : (count : ℕ) → count < 64 → 1 * 2 ^ count % 2 ^ 64 - 1 ≡ 2 ^ count - 1
shifted_ones count less = ap (λ n. n - 1) (one_shl count 64 less)

pub all_ones : (count k : ℕ) → 64 ≤ count → k < 64 → has_bit (2 ^ 64 - 1) k ≡ nat_lt k count
all_ones count k more within = has_bit-ones 64 k ∙ grind (arith, nat_tests)

-- a bit in common
abbrev pub SharedBit : ℕ → ℕ → Type 0
SharedBit a b = (bit : ℕ) × (bit < 64) × IsTrue (has_bit a bit) × IsTrue (has_bit b bit)

shared : (a b : ℕ) → 0 < bit_and a b → bit_and a b < 2 ^ 64 → SharedBit a b
shared a b some small =
    let place = trailing_zeros w64 (bit_and a b) in
    let found = bit_at-trailing_zeros w64 (bit_and a b) some small in
    let both : min (bit_at a place) (bit_at b place) ≡ 1 = sym (bit_at_and a b place) ∙ found.1 in
    let first : bit_at a place ≡ 1 = omega (arith, both, bit_at-lt a place, bit_at-lt b place) in
    let second : bit_at b place ≡ 1 = omega (arith, both, bit_at-lt a place, bit_at-lt b place) in
    (place, found.0, (has_bit-one a place).1 first, (has_bit-one b place).1 second)

and_some : (a b : ℕ) → SharedBit a b → 0 < bit_and a b
and_some a b (bit, within, first, second) = pos_of_ne-zero (λ zero.
    let is_both = bit_at_and a b bit in
    let none : bit_at (bit_and a b) bit ≡ 0 = ap (λ n. bit_at n bit) zero ∙ bit_at-zero bit in
    let one = (has_bit-one a bit).0 first in
    let other = (has_bit-one b bit).0 second in
    absurd (omega (arith, is_both, none, one, other)))

pub shares_bit : (a b : ℕ) → a < 2 ^ 64 → IsTrue (not (bit_and a b == 0)) ↔ SharedBit a b
shares_bit a b small =
    (λ test. shared a b (grind (arith, nat_tests)) (omega (arith, and_le_l a b)), λ common. let some = and_some a b common in grind (arith, nat_tests))
