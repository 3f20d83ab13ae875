-- Two meetings overlap where bits and bounds say so.
use Rattle.std.specs.Prelude.{◌≡◌, ℕ, zero, suc, ◌+◌, ◌^◌, ◌<◌, ◌≤◌, max, Bool, true, false, not, ◌&&◌, ◌||◌, ◌==◌, nat_lt, bit_and, refl, ◌⊎◌, ◌≢◌}
use Rattle.std.specs.Int.{bit_at}
use Rattle.std.proofs.Common.{sym, ◌∙◌, ap, subst, inl, inr, arith}
use Rattle.std.proofs.lemmas.Nat.{pow_pos, and_le_l}
use Rattle.std.proofs.lemmas.Nat.Bits.{bit_at_and, bit_at-lt, bit_at-zero, same_from_bits_below}
use Rattle.std.proofs.lemmas.Bool.{cases_lt, cases_eq, eq-eqb}
use Rattle.std.proofs.lemmas.Bool.Decides.{nat_tests}
use Rattle.sect_base.specs.Pattern.{Pattern, IsPattern, some_below, has_bit, takes_slot, meetings_overlap}

some_below-same : (n : ℕ) (p q : ℕ → Bool) → ((i : ℕ) → p i ≡ q i) → some_below n p ≡ some_below n q
unfolding some_below
some_below-same zero p q same = refl
some_below-same (suc n) p q same = λ i. same n i || some_below-same n p q same i

some_below-true : (n i : ℕ) (p : ℕ → Bool) → i < n → p i ≡ true → some_below n p ≡ true
unfolding some_below
some_below-true zero i p below passes = absurd (omega arith)
some_below-true (suc n) i p below passes = by_order (λ less. some_below-true n i p less passes) (cases_lt i n)
  where
    by_order : (i < n → some_below n p ≡ true) → (i < n) ⊎ (n ≤ i) → p n || some_below n p ≡ true
    by_order ih (inl less) = grind (arith, ih less)
    by_order ih (inr more) =
        let last : i ≡ n = omega arith in
        let here : p n ≡ true = subst (λ k. p k ≡ true) last passes in
        grind arith

some_below-false : (n : ℕ) (p : ℕ → Bool) → ((i : ℕ) → p i ≡ false) → some_below n p ≡ false
unfolding some_below
some_below-false zero p fails = refl
some_below-false (suc n) p fails = λ i. fails n i || some_below-false n p fails i

-- where no number passes, none below does
some_below-none : (n : ℕ) (p : ℕ → Bool) → some_below n p ≡ false → (i : ℕ) → i < n → p i ≡ false
unfolding some_below
some_below-none zero p nothing i below = absurd (omega arith)
some_below-none (suc n) p nothing i below = by_order (λ rest less. some_below-none n p rest i less) (cases_lt i n)
  where
    by_order : (some_below n p ≡ false → i < n → p i ≡ false) → (i < n) ⊎ (n ≤ i) → p i ≡ false
    by_order ih (inl less) =
        let rest : some_below n p ≡ false = grind (arith, nothing) in
        ih rest less
    by_order ih (inr more) =
        let last : n ≡ i = omega arith in
        let here : p n ≡ false = grind (arith, nothing) in
        subst (λ k. p k ≡ false) last here

unset : (n i : ℕ) → has_bit n i ≡ false → bit_at n i ≡ bit_at 0 i
unset n i clear = grind (arith, nat_tests, bit_at-lt n i, bit_at-zero i)

-- a number below 2 ^ k has a bit set below k where it isn't 0
some_bit : (k n : ℕ) → n < 2 ^ k → some_below k (has_bit n) ≡ not (n == 0)
some_bit k n below = by_number (cases_eq n 0)
  where
    by_test : n ≢ 0 → (b : Bool) → some_below k (has_bit n) ≡ b → some_below k (has_bit n) ≡ true
    by_test other true e = e
    by_test other false e =
        absurd (other (same_from_bits_below k n 0 below (pow_pos k) (λ i less. unset n i (some_below-none k (has_bit n) e i less))))

    by_number : (n ≡ 0) ⊎ (n ≢ 0) → some_below k (has_bit n) ≡ not (n == 0)
    by_number (inl none) =
        some_below-false k (has_bit n) (λ i. grind (arith, nat_tests, bit_at-zero i))
        ∙ sym (ap not (eq-eqb n 0 none))
    by_number (inr other) =
        by_test other (some_below k (has_bit n)) refl ∙ grind (arith, nat_tests)

both_bits : (a b i : ℕ) → (has_bit a i && has_bit b i) ≡ has_bit (bit_and a b) i
both_bits a b i = grind (arith, nat_tests, bit_at_and a b i, bit_at-lt a i, bit_at-lt b i)

-- a bit below k is in both numbers where their common bits aren't 0
share_bit : (k a b : ℕ) → a < 2 ^ k → some_below k (λ i. has_bit a i && has_bit b i) ≡ not (bit_and a b == 0)
share_bit k a b below =
    some_below-same k (λ i. has_bit a i && has_bit b i) (has_bit (bit_and a b)) (both_bits a b)
    ∙ some_bit k (bit_and a b) (omega (arith, and_le_l a b))

-- two meetings take a slot in common where each begins before the other ends
share_slot : (a b : Pattern) → IsPattern a → IsPattern b
    → some_below 288 (λ slot. takes_slot a slot && takes_slot b slot) ≡ (nat_lt a.start (b.start + b.slots) && nat_lt b.start (a.start + a.slots))
share_slot a b x y = by_order (cases_lt a.start (b.start + b.slots)) (cases_lt b.start (a.start + a.slots))
  where
    by_order : (a.start < b.start + b.slots) ⊎ (b.start + b.slots ≤ a.start) → (b.start < a.start + a.slots) ⊎ (a.start + a.slots ≤ b.start)
        → some_below 288 (λ slot. takes_slot a slot && takes_slot b slot) ≡ (nat_lt a.start (b.start + b.slots) && nat_lt b.start (a.start + a.slots))
    by_order (inl first) (inl second) =
        some_below-true 288 (max a.start b.start) (λ slot. takes_slot a slot && takes_slot b slot) (omega (arith, x.begins, y.begins)) (grind (arith, nat_tests, x.some_slot, y.some_slot))
        ∙ grind (arith, nat_tests)
    by_order (inr first) second =
        some_below-false 288 (λ slot. takes_slot a slot && takes_slot b slot) (λ i. grind (arith, nat_tests)) ∙ grind (arith, nat_tests)
    by_order first (inr second) =
        some_below-false 288 (λ slot. takes_slot a slot && takes_slot b slot) (λ i. grind (arith, nat_tests)) ∙ grind (arith, nat_tests)

-- meetings overlap where they share a day's bit and a week's, and each begins before the other ends
pub overlap_by_bounds : (a b : Pattern) → IsPattern a → IsPattern b
    → meetings_overlap a b
    ≡ (not (bit_and a.days b.days == 0) && not (bit_and a.weeks b.weeks == 0)
    && (nat_lt a.start (b.start + b.slots) && nat_lt b.start (a.start + a.slots)))
unfolding meetings_overlap
overlap_by_bounds a b x y = λ i.
    share_bit 7 a.days b.days x.weekdays i && share_bit 60 a.weeks b.weeks x.sixty_weeks i && share_slot a b x y i
