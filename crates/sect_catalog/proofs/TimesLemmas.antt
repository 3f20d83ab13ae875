-- Counts that stop at two, over a list that grows.
use Rattle.std.specs.Prelude.{◌≡◌, ℕ, zero, suc, ◌+◌, ◌<◌, min, List, [], ◌∷◌, ◌++◌, length, map, filter, flat_map}
use Rattle.std.proofs.Common.{sym, ◌∙◌, ap, arith, take, get_or, append_assoc, length-append}
use Rattle.std.proofs.lemmas.List.{append-nil}
use Rattle.std.proofs.lemmas.List.Elements.{filter-append}
use Rattle.sect_catalog.specs.Fault.{same_kind}
use Rattle.sect_catalog.specs.Search.{times_in}

pub times-append : (xs ys : List (ℕ × ℕ)) (id : ℕ × ℕ) → times_in (xs ++ ys) id ≡ min 2 (times_in xs id + times_in ys id)
times-append xs ys id =
    let both : length (filter (same_kind id) (xs ++ ys)) ≡ length (filter (same_kind id) xs) + length (filter (same_kind id) ys) =
    ap length (filter-append (same_kind id) xs ys) ∙ length-append (filter (same_kind id) xs) (filter (same_kind id) ys)
    in omega (arith, both)

flat-suc : {X Y : Type 0} (f : X → List Y) (xs : List X) (i : ℕ) (x : X) → i < length xs → x ≡ get_or xs i x
    → flat_map f (take (suc i) xs) ≡ flat_map f (take i xs) ++ f x
flat-suc f [] i x h e = absurd (omega arith)
flat-suc f (y ∷ ys) zero x h e = append-nil (f y) ∙ ap f (sym e)
flat-suc f (y ∷ ys) (suc i) x h e = ap (λ zs. f y ++ zs) (flat-suc f ys i x (omega arith) e) ∙ sym (append_assoc (f y) (flat_map f (take i ys)) (f x))

-- one part more
pub flat_more : {X Y : Type 0} (f : X → List Y) (xs : List X) (i : ℕ) (x : X) → i < length xs → x ≡ get_or xs i x
    → flat_map f (take (i + 1) xs) ≡ flat_map f (take i xs) ++ f x
flat_more f xs i x h e = let next : i + 1 ≡ suc i = omega arith in ap (λ k. flat_map f (take k xs)) next ∙ flat-suc f xs i x h e

map-suc : {X Y : Type 0} (f : X → Y) (xs : List X) (i : ℕ) (x : X) → i < length xs → x ≡ get_or xs i x
    → map f (take (suc i) xs) ≡ map f (take i xs) ++ f x ∷ []
map-suc f [] i x h e = absurd (omega arith)
map-suc f (y ∷ ys) zero x h e = ap (λ z. f z ∷ []) (sym e)
map-suc f (y ∷ ys) (suc i) x h e = ap (λ zs. f y ∷ zs) (map-suc f ys i x (omega arith) e)

pub map_more : {X Y : Type 0} (f : X → Y) (xs : List X) (i : ℕ) (x : X) → i < length xs → x ≡ get_or xs i x
    → map f (take (i + 1) xs) ≡ map f (take i xs) ++ f x ∷ []
map_more f xs i x h e = let next : i + 1 ≡ suc i = omega arith in ap (λ k. map f (take k xs)) next ∙ map-suc f xs i x h e

-- a count behind those of the first ids, with one part's more
pub counted : {X : Type 0} (front : List (ℕ × ℕ)) (f : X → List (ℕ × ℕ)) (xs : List X) (i : ℕ) (x : X) (id : ℕ × ℕ) (times one next : ℕ) → i < length xs → x ≡ get_or xs i x
    → times ≡ times_in (front ++ flat_map f (take i xs)) id → one ≡ times_in (f x) id → next ≡ min 2 (times + one)
    → next ≡ times_in (front ++ flat_map f (take (i + 1) xs)) id
counted front f xs i x id times one next h e so part sum =
    sum ∙ (λ k. min 2 (so k + part k)) ∙ sym (times-append (front ++ flat_map f (take i xs)) (f x) id)
    ∙ ap (λ ids. times_in ids id) (append_assoc front (flat_map f (take i xs)) (f x) ∙ ap (λ ids. front ++ ids) (sym (flat_more f xs i x h e)))

pub counted_each : {X : Type 0} (front : List (ℕ × ℕ)) (f : X → ℕ × ℕ) (xs : List X) (i : ℕ) (x : X) (id : ℕ × ℕ) (times one next : ℕ) → i < length xs → x ≡ get_or xs i x
    → times ≡ times_in (front ++ map f (take i xs)) id → one ≡ times_in (f x ∷ []) id → next ≡ min 2 (times + one)
    → next ≡ times_in (front ++ map f (take (i + 1) xs)) id
counted_each front f xs i x id times one next h e so part sum =
    sum ∙ (λ k. min 2 (so k + part k)) ∙ sym (times-append (front ++ map f (take i xs)) (f x ∷ []) id)
    ∙ ap (λ ids. times_in ids id) (append_assoc front (map f (take i xs)) (f x ∷ []) ∙ ap (λ ids. front ++ ids) (sym (map_more f xs i x h e)))

take-next : {X : Type 0} (xs : List X) (i : ℕ) (x : X) → i < length xs → x ≡ get_or xs i x → take (suc i) xs ≡ take i xs ++ x ∷ []
take-next [] i x h e = absurd (omega arith)
take-next (y ∷ ys) zero x h e = ap (λ z. z ∷ []) (sym e)
take-next (y ∷ ys) (suc i) x h e = ap (λ zs. y ∷ zs) (take-next ys i x (omega arith) e)

pub take_more : {X : Type 0} (xs : List X) (i : ℕ) (x : X) → i < length xs → x ≡ get_or xs i x → take (i + 1) xs ≡ take i xs ++ x ∷ []
take_more xs i x h e = let next : i + 1 ≡ suc i = omega arith in ap (λ k. take k xs) next ∙ take-next xs i x h e
