-- What f gives of a list's elements and positions, as the list grows.
use Rattle.std.specs.Prelude.{◌≡◌, ℕ, zero, suc, ◌+◌, ◌<◌, List, [], ◌∷◌, ◌++◌, length}
use Rattle.std.proofs.Common.{sym, ◌∙◌, ap, arith, take, get_or, append_assoc}
use Rattle.std.proofs.lemmas.List.{append-nil}
use Rattle.sect_catalog.specs.Place.{placed}

pub placed-append : {X Y : Type 0} (f : ℕ → X → List Y) (n : ℕ) (xs ys : List X) → placed f n (xs ++ ys) ≡ placed f n xs ++ placed f (n + length xs) ys
placed-append f n [] ys = ap (λ k. placed f k ys) (omega arith)
placed-append f n (x ∷ xs) ys =
    ap (λ zs. f n x ++ zs) (placed-append f (suc n) xs ys ∙ ap (λ k. placed f (suc n) xs ++ placed f k ys) (omega arith))
    ∙ sym (append_assoc (f n x) (placed f (suc n) xs) (placed f (n + suc (length xs)) ys))

taken : {X Y : Type 0} (f : ℕ → X → List Y) (n : ℕ) (xs : List X) (i : ℕ) (x : X) → i < length xs → x ≡ get_or xs i x
    → placed f n (take (suc i) xs) ≡ placed f n (take i xs) ++ f (n + i) x
taken f n [] i x h e = absurd (omega arith)
taken f n (y ∷ ys) zero x h e = append-nil (f n y) ∙ (λ i. f (same i) (sym e i))
  where
    same : n ≡ n + 0
    same = omega arith
taken f n (y ∷ ys) (suc i) x h e =
    ap (λ zs. f n y ++ zs) (taken f (suc n) ys i x (omega arith) e ∙ ap (λ k. placed f (suc n) (take i ys) ++ f k x) (omega arith))
    ∙ sym (append_assoc (f n y) (placed f (suc n) (take i ys)) (f (n + suc i) x))

-- one element more
pub placed_more : {X Y : Type 0} (f : ℕ → X → List Y) (xs : List X) (i : ℕ) (x : X) → i < length xs → x ≡ get_or xs i x
    → placed f 0 (take (i + 1) xs) ≡ placed f 0 (take i xs) ++ f i x
placed_more f xs i x h e =
    let next : i + 1 ≡ suc i = omega arith in
    let here : 0 + i ≡ i = omega arith in
    ap (λ k. placed f 0 (take k xs)) next ∙ taken f 0 xs i x h e ∙ ap (λ k. placed f 0 (take i xs) ++ f k x) here

-- the list noted so far, with one element's more
pub noted : {X Y : Type 0} (f : ℕ → X → List Y) (xs : List X) (i : ℕ) (x : X) (start now next : List Y) → i < length xs → x ≡ get_or xs i x
    → now ≡ start ++ placed f 0 (take i xs) → next ≡ now ++ f i x → next ≡ start ++ placed f 0 (take (i + 1) xs)
noted f xs i x start now next h e so more =
    more ∙ ap (λ es. es ++ f i x) so ∙ append_assoc start (placed f 0 (take i xs)) (f i x) ∙ ap (λ es. start ++ es) (sym (placed_more f xs i x h e))
