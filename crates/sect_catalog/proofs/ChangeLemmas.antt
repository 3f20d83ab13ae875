-- A write at a position is the change of what stands there.
use Rattle.std.specs.Prelude.{◌≡◌, ℕ, zero, suc, ◌<◌, ◌≤◌, List, [], ◌∷◌, ◌++◌, length, Option, Some, None, refl, slice_set}
use Rattle.std.specs.Option.{MatchOption}
use Rattle.std.proofs.Common.{sym, ◌∙◌, ap, arith, get_or, MutBor}
use Rattle.sect_catalog.specs.Limits.{change_at}

pub changed : {X : Type 0} (f : X → X) (xs : List X) (i : ℕ) (x y : X) → i < length xs → x ≡ get_or xs i x → y ≡ f x → slice_set xs i y ≡ change_at i f xs
changed f [] i x y h e so = absurd (omega arith)
changed f (z ∷ zs) zero x y h e so = λ i. (so ∙ ap f e) i ∷ zs
changed f (z ∷ zs) (suc i) x y h e so = ap (λ ws. z ∷ ws) (changed f zs i x y (omega arith) e so)

unchanged : {X : Type 0} (f : X → X) (xs : List X) (i : ℕ) → length xs ≤ i → change_at i f xs ≡ xs
unchanged f [] i h = refl
unchanged f (z ∷ zs) zero h = absurd (omega arith)
unchanged f (z ∷ zs) (suc i) h = ap (λ ws. z ∷ ws) (unchanged f zs i (omega arith))

-- where nothing was lent
pub past : {X : Type 0} (f : X → X) (xs : List X) (i : ℕ) (r : Option (MutBor X)) (P : MutBor X → Type 0) → MatchOption r (length xs ≤ i) P → ((x : MutBor X) → r ≡ Some x → ⊥) → xs ≡ change_at i f xs
past f xs i None P h never = sym (unchanged f xs i h)
past f xs i (Some x) P h never = absurd (never x refl)

-- the place that is changed
pub change-here : {X : Type 0} (f : X → X) (before : List X) (x : X) (xs : List X) → change_at (length before) f (before ++ x ∷ xs) ≡ before ++ f x ∷ xs
change-here f [] x xs = refl
change-here f (y ∷ ys) x xs = ap (λ zs. y ∷ zs) (change-here f ys x xs)
