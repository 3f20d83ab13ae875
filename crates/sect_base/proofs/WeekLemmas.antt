-- Weeks that meet some days, and runs of weeks as bits.
use Rattle.std.specs.Prelude.{◌≡◌, ◌↔◌, IsTrue, ℕ, ◌+◌, ◌-◌, ◌*◌, ◌/◌, ◌%◌, ◌<◌, ◌≤◌, ◌^◌, max}
use Rattle.std.specs.Int.{bit_at}
use Rattle.std.proofs.Common.{ap, ◌∙◌, arith, inl, inr}
use Rattle.std.proofs.lemmas.Nat.Bits.{bit_at_mask_inside, bit_at_mask_below, bit_at_mask_above}
use Rattle.std.proofs.lemmas.Nat.{one_shl, pow_below, pow_pos}
use Rattle.std.proofs.Math.Pow.{pow_mono}
use Rattle.std.proofs.lemmas.Bool.{cases_lt}
use Rattle.sect_base.specs.Pattern.{has_bit}
use Rattle.sect_base.specs.Weeks.{MeetsWeek, week_range}
use Rattle.sect_base.proofs.BitLemmas.{has_bit-one}

pub meets_week : (term first last from to week : ℕ) → term + from ≡ first → term + to ≡ last → first ≤ last
    → ((from / 7 ≤ week) × (week ≤ to / 7)) ↔ MeetsWeek term first last week
meets_week term first last from to week is_first is_last order = (
  λ within. (max first (term + 7 * week), omega arith, omega arith, (omega arith, omega arith)),
  λ (day, from_first, to_last, in_week). (omega arith, omega arith),
)

week_range_has : (first last week : ℕ) → (bit_at (week_range first last) week ≡ 1) ↔ ((first ≤ week) × (week ≤ last))
week_range_has first last week = (
  λ has. (
    elim (cases_lt week first) [ inl low ↦ absurd (omega (arith, has, bit_at_mask_below first (last + 1) week low)) | inr high ↦ high ],
    elim (cases_lt last week) [ inl high ↦ absurd (omega (arith, has, bit_at_mask_above first (last + 1) week (omega arith))) | inr low ↦ low ],
  ),
  λ (low, high). bit_at_mask_inside first (last + 1) week low (omega arith),
)

pub has_bit-week_range : (first last week : ℕ) → IsTrue (has_bit (week_range first last) week) ↔ ((first ≤ week) × (week ≤ last))
has_bit-week_range first last week =
    let one = has_bit-one (week_range first last) week in
    let within = week_range_has first last week in
    (λ set. within.0 (one.0 set), λ between. one.1 (within.1 between))

-- the difference of two shifted ones is the run of bits
pub shifts : (first last : ℕ) → first ≤ last → last < 60 → 1 * 2 ^ (last + 1) % 2 ^ 64 - 1 * 2 ^ first % 2 ^ 64 ≡ week_range first last
shifts first last order sixty =
    let high = one_shl (last + 1) 64 (omega arith) in
    let low = one_shl first 64 (omega arith) in
    ap (λ n. n - 1 * 2 ^ first % 2 ^ 64) high ∙ ap (λ n. 2 ^ (last + 1) - n) low

-- the bits are there to be taken apart
pub shift_in_order : (first last : ℕ) → first ≤ last → last < 60 → 1 * 2 ^ first % 2 ^ 64 ≤ 1 * 2 ^ (last + 1) % 2 ^ 64
shift_in_order first last order sixty =
    let high = one_shl (last + 1) 64 (omega arith) in
    let low = one_shl first 64 (omega arith) in
    omega (arith, high, low, pow_below first (last + 1) (omega arith))

pub week_range_some : (first last : ℕ) → first ≤ last → 0 < week_range first last
week_range_some first last order = omega (arith, pow_below first (last + 1) (omega arith))

pub week_range_sixty : (first last : ℕ) → last < 60 → week_range first last < 2 ^ 60
week_range_sixty first last sixty =
    let top : 2 ^ (last + 1) ≤ 2 ^ 60 = pow_mono {i = last + 1} {j = 60} (omega arith) in
    omega (arith, top, pow_pos first, pow_pos (last + 1))
