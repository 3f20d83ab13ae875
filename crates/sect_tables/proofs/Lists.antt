-- The last element of a list.
use Rattle.std.proofs.Common.{◌≡◌, Bool, false, cond, List, [], ◌∷◌, ◌++◌, refl, ap, sym, ◌∙◌, append_assoc}
use Rattle.sect_tables.specs.Offerings.{at_last}

-- the last element is the one that was put at the end
pub at_last_end : {A : Type 0} (others : A → List A) (xs : List A) (x : A) → at_last others (xs ++ (x ∷ [])) ≡ xs ++ others x
at_last_end others [] x = refl
at_last_end others (y ∷ []) x = refl
at_last_end others (y ∷ z ∷ zs) x = ap (λ rest. y ∷ rest) (at_last_end others (z ∷ zs) x)

other_case : {A : Type 0} (test : Bool) (kept others : List A) → test ≡ false → cond test kept others ≡ others
other_case test kept others failed = ap (λ b. cond b kept others) failed

-- another element stands behind the last, where that doesn't pass the test of being kept
pub another_behind : {A : Type 0} (others : A → List A) (xs more : List A) (last pushed next new : A) (test : Bool) (kept : List A)
    → others last ≡ cond test kept (last ∷ new ∷ []) → test ≡ false → next ≡ new → pushed ≡ last → more ≡ xs ++ (pushed ∷ [])
    → more ++ (next ∷ []) ≡ at_last others (xs ++ (last ∷ []))
another_behind others xs more last pushed next new test kept by_test failed is_new is_last all =
    ap (λ m. m ++ (next ∷ [])) (all ∙ ap (λ x. xs ++ (x ∷ [])) is_last)
    ∙ append_assoc xs (last ∷ []) (next ∷ [])
    ∙ ap (λ x. xs ++ (last ∷ x ∷ [])) is_new
    ∙ ap (λ end. xs ++ end) (sym (other_case test kept (last ∷ new ∷ []) failed))
    ∙ ap (λ end. xs ++ end) (sym by_test)
    ∙ sym (at_last_end others xs last)
