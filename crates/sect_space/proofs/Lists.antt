-- Lists that are changed and changed back.
use Rattle.std.specs.Prelude.{◌≡◌, ℕ, ◌+◌, ◌-◌, Bool, true, false, ◌==◌, List, [], ◌∷◌, ◌++◌, length, take, map, find, Some, refl}
use Rattle.std.proofs.Common.{sym, ◌∙◌, ap, subst, arith, inl, inr, length-append}
use Rattle.std.proofs.Math.Seq.{take-append_seam}
use Rattle.std.proofs.lemmas.Bool.{eqb-true}
use Rattle.sect_people.specs.Order.{all_differ}
use Rattle.sect_model.proofs.Members.{Member}
use Rattle.sect_model.proofs.EnrolLeave.{find-own}
use Rattle.sect_space.specs.Back.{but_last}

-- one more, and then not
pub but-last : {X : Type 0} (xs : List X) (x : X) → but_last (xs ++ x ∷ []) ≡ xs
but-last xs x = ap (λ n. take n (xs ++ x ∷ [])) (length_front (length xs) (length (xs ++ x ∷ [])) (length-append xs (x ∷ []))) ∙ take-append_seam xs (x ∷ [])
  where
    length_front : (m n : ℕ) → n ≡ m + 1 → n - 1 ≡ m
    length_front m n e = omega (arith, e)

map-same : {X : Type 0} (f g : X → X) (xs : List X) → ((x : X) → Member xs x → g (f x) ≡ x) → map g (map f xs) ≡ xs
map-same f g [] h = refl
map-same f g (x ∷ xs) h = λ i. h x (inl refl) i ∷ map-same f g xs (λ y m. h y (inr m)) i

-- where keys differ, a change of the one element with a key is taken back by a change that gives it back
pub map-back : {X : Type 0} (key : X → ℕ) (f g : X → X) (k : ℕ) (xs : List X) (x : X) → all_differ (map key xs) ≡ true → find (λ y. key y == k) xs ≡ Some x
    → g (f x) ≡ x → ((y : X) → key y == k ≡ false → g (f y) ≡ y) → map g (map f xs) ≡ xs
map-back {X = X} key f g k xs x differ found own others = map-same f g xs (λ y m. by_test y m (key y == k) refl)
  where
    by_test : (y : X) → Member xs y → (b : Bool) → key y == k ≡ b → g (f y) ≡ y
    by_test y m true t = subst (λ z. g (f z) ≡ z) (same (sym found ∙ find-own key xs differ y m k (eqb-true (key y) k t))) own
      where
        same : Some x ≡ Some y → x ≡ y
        same e = cc
    by_test y m false t = others y t
