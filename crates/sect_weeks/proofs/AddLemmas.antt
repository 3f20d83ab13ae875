-- One element after another is taken in a calendar.
use Rattle.std.specs.Prelude.{◌≡◌, ℕ, zero, suc, ◌+◌, ◌<◌, Bool, true, false, ◌||◌, List, [], ◌∷◌, length, slice_index_or, refl}
use Rattle.std.specs.List.{list_any}
use Rattle.std.proofs.Common.{take, sym, ◌∙◌, ap, arith}
use Rattle.sect_base.specs.Calendar.{is_set}
use Rattle.sect_weeks.specs.Taken.{Adds}

or_false : (b : Bool) → b || false ≡ b
or_false true = refl
or_false false = refl

or_assoc : (a b c : Bool) → a || (b || c) ≡ (a || b) || c
or_assoc true b c = refl
or_assoc false b c = refl

-- some of the elements so far, and the next one
any-suc : {X : Type 0} (test : X → Bool) (xs : List X) (k : ℕ) (d : X) → k < length xs → list_any test (take (suc k) xs) ≡ list_any test (take k xs) || test (slice_index_or xs k d)
any-suc test [] k d h = absurd (omega (arith, h))
any-suc test (x ∷ xs) zero d h = or_false (test x)
any-suc test (x ∷ xs) (suc k) d h = ap (λ b. test x || b) (any-suc test xs k d (omega (arith, h))) ∙ or_assoc (test x) (list_any test (take k xs)) _

any-more : {X : Type 0} (test : X → Bool) (xs : List X) (k : ℕ) (d : X) → k < length xs → list_any test (take (k + 1) xs) ≡ list_any test (take k xs) || test (slice_index_or xs k d)
any-more test xs k d h = let e : k + 1 ≡ suc k = omega arith in ap (λ n. list_any test (take n xs)) e ∙ any-suc test xs k d h

-- one element more is taken
pub adds-more : {X : Type 0} (test : X → ℕ → ℕ → Bool) (xs : List X) (k : ℕ) (d : X) (a b c : List ℕ) → k < length xs
    → Adds a b (λ day slot. list_any (λ x. test x day slot) (take k xs)) → Adds b c (test (slice_index_or xs k d)) → Adds a c (λ day slot. list_any (λ x. test x day slot) (take (k + 1) xs))
adds-more test xs k d a b c h first then day slot within =
    then day slot within
    ∙ ap (λ e. e || test (slice_index_or xs k d) day slot) (first day slot within)
    ∙ sym (or_assoc (is_set a day slot) (list_any (λ x. test x day slot) (take k xs)) (test (slice_index_or xs k d) day slot))
    ∙ ap (λ e. is_set a day slot || e) (sym (any-more (λ x. test x day slot) xs k d h))
