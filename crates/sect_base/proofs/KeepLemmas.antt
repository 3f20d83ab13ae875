-- What is left of slots and of a table where only the values that pass are kept.
use Rattle.std.specs.Prelude.{◌≡◌, ℕ, zero, suc, ◌+◌, ◌<◌, ◌≤◌, ◌==◌, nat_lt, Bool, true, false, cond, List, [], ◌∷◌, length, slice_set, Option, Some, None, refl}
use Rattle.std.specs.Option.{option_and_then}
use Rattle.std.proofs.Common.{sym, ◌∙◌, ap, arith, get_or}
use Rattle.std.proofs.lemmas.Bool.{eqb-true}
use Rattle.std.proofs.lemmas.Bool.Decides.{nat_tests}
use Rattle.std.proofs.lemmas.Map.Entries.{option_filter}
use Rattle.std.proofs.lemmas.Option.{slice_get_past, slice_get-get_or}
use Rattle.sect_base.specs.Slots.{slot_at, kept}

slot-set : {V : Type 0} (xs : List (Option V)) (i n : ℕ) (o : Option V) → i < length xs → slot_at (slice_set xs i o) n ≡ cond (i == n) o (slot_at xs n)
slot-set [] i n o h = absurd (omega (arith, h))
slot-set (x ∷ xs) zero zero o h = refl
slot-set (x ∷ xs) zero (suc n) o h = let d : (0 == suc n) ≡ false = grind (arith, nat_tests) in sym (ap (λ b. cond b o (slot_at xs n)) d)
slot-set (x ∷ xs) (suc i) zero o h = let d : (suc i == 0) ≡ false = grind (arith, nat_tests) in sym (ap (λ b. cond b o x) d)
slot-set (x ∷ xs) (suc i) (suc n) o h =
    let d : (i == n) ≡ (suc i == suc n) = grind (arith, nat_tests) in
    slot-set xs i n o (omega (arith, h)) ∙ ap (λ b. cond b o (slot_at xs n)) d

slot-here : {V : Type 0} (xs : List (Option V)) (i : ℕ) (slot : Option V) → i < length xs → slot ≡ get_or xs i slot → slot ≡ slot_at xs i
slot-here xs i slot h is = is ∙ sym (ap (option_and_then (λ o. o)) (slice_get-get_or xs i slot h))

-- the slots below i are kept, and the others stay
abbrev pub KeepsBelow : {V : Type 0} → (V → Bool) → ℕ → List (Option V) → List (Option V) → Type 0
KeepsBelow p i was now = (n : ℕ) → slot_at now n ≡ cond (nat_lt n i) (kept p (slot_at was n)) (slot_at was n)

pub keep-more : {V : Type 0} (p : V → Bool) (was now : List (Option V)) (i : ℕ) (slot o : Option V) → i < length now → slot ≡ get_or now i slot → o ≡ kept p slot
    → KeepsBelow p i was now → KeepsBelow p (i + 1) was (slice_set now i o)
keep-more p was now i slot o h here is below n = slot-set now i n o h ∙ by_test (i == n) refl
  where
    not-yet : nat_lt i i ≡ false
    not-yet = grind (arith, nat_tests)

    within : i ≡ n → nat_lt n (i + 1) ≡ true
    within e = grind (arith, nat_tests, e)

    same : i == n ≡ false → nat_lt n i ≡ nat_lt n (i + 1)
    same t = grind (arith, nat_tests, t)

    this : o ≡ kept p (slot_at was i)
    this = is ∙ ap (kept p) (slot-here now i slot h here ∙ below i ∙ ap (λ b. cond b (kept p (slot_at was i)) (slot_at was i)) not-yet)

    by_test : (b : Bool) → i == n ≡ b → cond b o (slot_at now n) ≡ cond (nat_lt n (i + 1)) (kept p (slot_at was n)) (slot_at was n)
    by_test true t =
        this ∙ ap (λ k. kept p (slot_at was k)) (eqb-true i n t)
        ∙ sym (ap (λ b. cond b (kept p (slot_at was n)) (slot_at was n)) (within (eqb-true i n t)))
    by_test false t = below n ∙ ap (λ b. cond b (kept p (slot_at was n)) (slot_at was n)) (same t)

pub keep-end : {V : Type 0} (p : V → Bool) (was now : List (Option V)) (i : ℕ) → length was ≤ i → KeepsBelow p i was now → (n : ℕ) → slot_at now n ≡ kept p (slot_at was n)
keep-end p was now i h below n = below n ∙ by_test (nat_lt n i) refl
  where
    past : nat_lt n i ≡ false → length was ≤ n
    past t = grind (arith, nat_tests, t, h)

    by_test : (b : Bool) → nat_lt n i ≡ b → cond b (kept p (slot_at was n)) (slot_at was n) ≡ kept p (slot_at was n)
    by_test true t = refl
    by_test false t =
        let none : slot_at was n ≡ None = ap (option_and_then (λ o. o)) (slice_get_past was n (past t)) in
        none ∙ sym (ap (kept p) none)

pub filter-kept : {V : Type 0} (p : V → Bool) (o : Option V) → option_filter p o ≡ kept p o
filter-kept p None = refl
filter-kept p (Some v) = refl
