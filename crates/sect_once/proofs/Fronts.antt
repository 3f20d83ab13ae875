-- Fronts of histories.
use Rattle.std.proofs.Common.{◌≡◌, ℕ, zero, suc, ◌+◌, List, [], ◌∷◌, ◌++◌, take, slice_get, sym, ap, ◌∙◌, arith, Some}
use Rattle.sect_base.specs.declared.limit.Caller.{Caller}
use Rattle.sect_once.specs.declared.entry.Entry.{Entry}
use Rattle.sect_once.specs.History.{state_after}
use Rattle.sect_once.proofs.Logs.{state_after-append}

module _ {A : Type 0} where
  take-suc : (xs : List A) (at : ℕ) (x : A) → slice_get xs at ≡ Some x → take (suc at) xs ≡ take at xs ++ x ∷ []
  take-suc [] at x h = absurd cc
  take-suc (y ∷ xs) zero x h = let e : y ≡ x = cc in ap (λ (z : A). z ∷ []) e
  take-suc (y ∷ xs) (suc at) x h = ap (λ (zs : List A). y ∷ zs) (take-suc xs at x h)

  -- one element more
  pub take-snoc : (xs : List A) (at : ℕ) (x : A) → slice_get xs at ≡ Some x → take (at + 1) xs ≡ take at xs ++ x ∷ []
  take-snoc xs at x h = let e : at + 1 ≡ suc at = omega arith in ap (λ (n : ℕ). take n xs) e ∙ take-suc xs at x h

module _ {S C R : Type 0} (stepped : S → ℕ → Caller → C → S × R) where
  -- the entry at a place acts behind those before it
  pub acted_more : (start : S) (es : List (Entry C R)) (at : ℕ) (e : Entry C R) (s after : S) → s ≡ state_after stepped start (take at es)
      → after ≡ (stepped s e.day e.id.caller e.command).0 → slice_get es at ≡ Some e → after ≡ state_after stepped start (take (at + 1) es)
  acted_more start es at e s after same acts here =
      acts
      ∙ ap (λ (t : S). (stepped t e.day e.id.caller e.command).0) same
      ∙ sym (state_after-append stepped start (take at es) e)
      ∙ sym (ap (λ (l : List (Entry C R)). state_after stepped start l) (take-snoc es at e here))
