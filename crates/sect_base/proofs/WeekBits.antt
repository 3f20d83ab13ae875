-- Where runs of weeks begin and end in the bits of a set.
use Rattle.std.specs.Prelude.{◌≡◌, ◌≢◌, ℕ, ◌+◌, ◌-◌, ◌/◌, ◌%◌, ◌^◌, ◌<◌, ◌≤◌, ◌==◌, ◌⊎◌, true, false}
use Rattle.std.specs.Int.{bit_at, w64, trailing_zeros, trailing_ones}
use Rattle.std.proofs.Common.{sym, ap, ◌∙◌, arith, inl, inr}
use Rattle.std.proofs.Math.Nat.{div-div-eq-div-mul, pos_of_ne-zero}
use Rattle.std.proofs.lemmas.Bool.{cases_lt}
use Rattle.std.proofs.lemmas.Bool.Decides.{nat_tests}
use Rattle.std.proofs.lemmas.Nat.{pow-add, shr_le}
use Rattle.std.proofs.lemmas.Nat.Bits.{bit_at_above, bit_at-trailing_zeros, bit_at-trailing_ones}
use Rattle.sect_base.specs.Pattern.{has_bit}
use Rattle.sect_base.specs.WeekText.{IsFirstFrom, IsLastFrom}
use Rattle.sect_base.proofs.BitLemmas.{has_bit-one, has_bit-zero}

bit_at-shr : (n a i : ℕ) → bit_at (n / 2 ^ a) i ≡ bit_at n (a + i)
bit_at-shr n a i = ap (λ m. m % 2) (div-div-eq-div-mul n (2 ^ a) (2 ^ i) ∙ ap (λ d. n / d) (sym (pow-add 2 a i)))

has_bit-shr : (n a i : ℕ) → has_bit (n / 2 ^ a) i ≡ has_bit n (a + i)
has_bit-shr n a i = ap (λ b. b == 1) (bit_at-shr n a i)

-- a week of the set is one of the sixty
pub in_sixty : (weeks week : ℕ) → weeks < 2 ^ 60 → has_bit weeks week ≡ true → week < 60
in_sixty weeks week small set = by_order (cases_lt week 60)
  where
    by_order : (week < 60) ⊎ (60 ≤ week) → week < 60
    by_order (inl less) = less
    by_order (inr more) =
        let one = (has_bit-one weeks week).0 set in
        absurd (omega (arith, one, bit_at_above weeks 60 week small more))

pub none_from : (weeks from : ℕ) → weeks / 2 ^ from ≡ 0 → (week : ℕ) → from ≤ week → has_bit weeks week ≡ false
none_from weeks from none week past =
    let place : from + (week - from) ≡ week = omega arith in
    sym (ap (has_bit weeks) place) ∙ sym (has_bit-shr weeks from (week - from)) ∙ ap (λ n. has_bit n (week - from)) none ∙ has_bit-zero (week - from)

unset : (n i : ℕ) → bit_at n i ≡ 0 → has_bit n i ≡ false
unset n i zero = grind (arith, nat_tests)

pub first_from : (weeks from : ℕ) → weeks < 2 ^ 64 → weeks / 2 ^ from ≢ 0 → IsFirstFrom weeks from (from + trailing_zeros w64 (weeks / 2 ^ from))
first_from weeks from small some =
    let found = bit_at-trailing_zeros w64 (weeks / 2 ^ from) (pos_of_ne-zero some) (omega (arith, small, shr_le weeks from)) in
    record {
      begins = omega arith;
      is_in = sym (has_bit-shr weeks from (trailing_zeros w64 (weeks / 2 ^ from))) ∙ (has_bit-one (weeks / 2 ^ from) (trailing_zeros w64 (weeks / 2 ^ from))).1 found.1;
      skipped = λ week past below.
          let place : from + (week - from) ≡ week = omega arith in
          sym (ap (has_bit weeks) place) ∙ sym (has_bit-shr weeks from (week - from)) ∙ unset (weeks / 2 ^ from) (week - from) (found.2 (week - from) (omega arith));
    }

-- what is known of the ones from a week on
pub record Ones (weeks first len : ℕ) : Type 0 where
  pub some : 0 < len
  pub is_last : IsLastFrom weeks first (first + len - 1)
  pub fits : len < 64

ones_last : (weeks first len : ℕ) → weeks < 2 ^ 60 → 0 < len → bit_at (weeks / 2 ^ first) len ≡ 0
    → ((i : ℕ) → i < len → bit_at (weeks / 2 ^ first) i ≡ 1) → IsLastFrom weeks first (first + len - 1)
ones_last weeks first len small some end ones = record {
  order = omega arith;
  ends = in_sixty weeks (first + len - 1) small (one (first + len - 1) (omega arith) (omega arith));
  within = λ week past to. one week past (omega arith);
  after =
      let place : first + len - 1 + 1 ≡ first + len = omega arith in
      ap (has_bit weeks) place ∙ sym (has_bit-shr weeks first len) ∙ unset (weeks / 2 ^ first) len end;
}
  where
    one : (week : ℕ) → first ≤ week → week < first + len → has_bit weeks week ≡ true
    one week past below =
        let place : first + (week - first) ≡ week = omega arith in
        sym (ap (has_bit weeks) place) ∙ sym (has_bit-shr weeks first (week - first))
        ∙ (has_bit-one (weeks / 2 ^ first) (week - first)).1 (ones (week - first) (omega arith))

first_one : (weeks first : ℕ) → has_bit weeks first ≡ true → bit_at (weeks / 2 ^ first) 0 ≡ 1
first_one weeks first set =
    let place : first + 0 ≡ first = omega arith in
    bit_at-shr weeks first 0 ∙ ap (bit_at weeks) place ∙ (has_bit-one weeks first).0 set

pub last_from : (weeks first : ℕ) → weeks < 2 ^ 60 → has_bit weeks first ≡ true → Ones weeks first (trailing_ones w64 (weeks / 2 ^ first))
last_from weeks first small set =
    let found = bit_at-trailing_ones w64 (weeks / 2 ^ first) (omega (arith, small, shr_le weeks first)) in
    let some = by_len (cases_lt 0 (trailing_ones w64 (weeks / 2 ^ first))) found.1 in
    record { some = some; is_last = ones_last weeks first (trailing_ones w64 (weeks / 2 ^ first)) small some found.1 found.2; fits = found.0 }
  where
    by_len : (0 < trailing_ones w64 (weeks / 2 ^ first)) ⊎ (trailing_ones w64 (weeks / 2 ^ first) ≤ 0)
        → bit_at (weeks / 2 ^ first) (trailing_ones w64 (weeks / 2 ^ first)) ≡ 0 → 0 < trailing_ones w64 (weeks / 2 ^ first)
    by_len (inl some) end = some
    by_len (inr none) end =
        let zero : trailing_ones w64 (weeks / 2 ^ first) ≡ 0 = omega (arith, none) in
        absurd (omega (arith, first_one weeks first set, sym (ap (bit_at (weeks / 2 ^ first)) zero) ∙ end))
