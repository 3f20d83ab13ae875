-- The place of a key in a list.
use Rattle.std.specs.Prelude.{◌≡◌, ℕ, zero, suc, Bool, true, false, not, ◌&&◌, ◌||◌, ◌==◌, cond, List, [], ◌∷◌, ◌++◌, map, find, Option, Some, None, refl, slice_get, slice_set}
use Rattle.std.specs.List.{list_any}
use Rattle.std.specs.Option.{option_map, option_and_then, is_some}
use Rattle.std.proofs.Common.{◌<◌, length, sym, ◌∙◌, ap, subst, arith}
use Rattle.std.proofs.lemmas.Bool.{eqb-true}
use Rattle.std.proofs.lemmas.Bool.Decides.{nat_tests}
use Rattle.sect_people.specs.Order.{all_differ}
use Rattle.sect_people.specs.Index.{place_of}

pub not_both : (b : Bool) → b ≡ true → b ≡ false → ⊥
not_both true h e = cc
not_both false h e = cc

not_true : (b : Bool) → not b ≡ true → b ≡ false
not_true true h = sym h
not_true false h = refl

both-left : (a b : Bool) → a && b ≡ true → a ≡ true
both-left true b h = refl
both-left false b h = h

both-right : (a b : Bool) → a && b ≡ true → b ≡ true
both-right true b h = h
both-right false b h = absurd (grind (arith, h))

neither-left : (a b : Bool) → a || b ≡ false → a ≡ false
neither-left true b h = h
neither-left false b h = refl

neither-right : (a b : Bool) → a || b ≡ false → b ≡ false
neither-right true b h = absurd (grind (arith, h))
neither-right false b h = h

-- what stands at the place is what a look-up finds
pub place-find : {X : Type 0} (key : X → ℕ) (xs : List X) (id : ℕ) → option_and_then (slice_get xs) (place_of key xs id) ≡ find (λ x. key x == id) xs
place-find key [] id = refl
place-find {X = X} key (x ∷ xs) id = by_test (place-find key xs id) (key x == id)
  where
    behind : (o : Option ℕ) → option_and_then (slice_get (x ∷ xs)) (option_map (λ n. suc n) o) ≡ option_and_then (slice_get xs) o
    behind None = refl
    behind (Some n) = refl

    by_test : option_and_then (slice_get xs) (place_of key xs id) ≡ find (λ x. key x == id) xs → (b : Bool)
        → option_and_then (slice_get (x ∷ xs)) (cond b (Some 0) (option_map (λ n. suc n) (place_of key xs id))) ≡ cond b (Some x) (find (λ x. key x == id) xs)
    by_test ih true = refl
    by_test ih false = behind (place_of key xs id) ∙ ih

-- a place lies within the list
pub place-within : {X : Type 0} (key : X → ℕ) (xs : List X) (id k : ℕ) → place_of key xs id ≡ Some k → k < length xs
place-within key [] id k e = cc
place-within key (x ∷ xs) id k e = by_test (λ j p. place-within key xs id j p) (key x == id) e
  where
    behind : ((j : ℕ) → place_of key xs id ≡ Some j → j < length xs) → (o : Option ℕ) → place_of key xs id ≡ o → option_map (λ n. suc n) o ≡ Some k → k < suc (length xs)
    behind ih None p e = cc
    behind ih (Some j) p e = let same : suc j ≡ k = cc in omega (arith, same, ih j p)

    by_test : ((j : ℕ) → place_of key xs id ≡ Some j → j < length xs) → (b : Bool) → cond b (Some 0) (option_map (λ n. suc n) (place_of key xs id)) ≡ Some k → k < suc (length xs)
    by_test ih true e = let same : 0 ≡ k = cc in omega (arith, same)
    by_test ih false e = behind ih (place_of key xs id) refl e

-- an id has a place exactly where a look-up finds it
pub place-known : {X : Type 0} (key : X → ℕ) (xs : List X) (id : ℕ) → is_some (place_of key xs id) ≡ is_some (find (λ x. key x == id) xs)
place-known key [] id = refl
place-known key (x ∷ xs) id = by_test (place-known key xs id) (key x == id)
  where
    behind : (o : Option ℕ) → is_some (option_map (λ n. suc n) o) ≡ is_some o
    behind None = refl
    behind (Some n) = refl

    by_test : is_some (place_of key xs id) ≡ is_some (find (λ x. key x == id) xs) → (b : Bool) → is_some (cond b (Some 0) (option_map (λ n. suc n) (place_of key xs id))) ≡ is_some (cond b (Some x) (find (λ x. key x == id) xs))
    by_test ih true = refl
    by_test ih false = behind (place_of key xs id) ∙ ih

-- a key without a place is none of the keys
pub place-none : {X : Type 0} (key : X → ℕ) (xs : List X) (id : ℕ) → place_of key xs id ≡ None → list_any (λ n. n == id) (map key xs) ≡ false
place-none key [] id e = refl
place-none key (x ∷ xs) id e = by_test (place-none key xs id) (key x == id) e
  where
    behind : (o : Option ℕ) → option_map (λ n. suc n) o ≡ None → o ≡ None
    behind None e = refl
    behind (Some n) e = cc

    by_test : (place_of key xs id ≡ None → list_any (λ n. n == id) (map key xs) ≡ false) → (b : Bool) → cond b (Some 0) (option_map (λ n. suc n) (place_of key xs id)) ≡ None
        → b || list_any (λ n. n == id) (map key xs) ≡ false
    by_test ih true e = cc
    by_test ih false e = ih (behind (place_of key xs id) e)

-- a change of the one of an id
abbrev pub change : {X : Type 0} → (X → ℕ) → ℕ → (X → X) → X → X
change key id f x = cond (key x == id) (f x) x

-- where no key is the id, nothing changes
change-none : {X : Type 0} (key : X → ℕ) (id : ℕ) (f : X → X) (xs : List X) → list_any (λ n. n == id) (map key xs) ≡ false → map (change key id f) xs ≡ xs
change-none key id f [] h = refl
change-none key id f (x ∷ xs) h =
    λ i. cond (neither-left (key x == id) _ h i) (f x) x ∷ change-none key id f xs (neither-right (key x == id) _ h) i

-- where keys differ, a write at the place of an id is the change of the one of that id
pub set-change : {X : Type 0} (key : X → ℕ) (f : X → X) (xs : List X) (id k : ℕ) (x : X) → all_differ (map key xs) ≡ true
    → place_of key xs id ≡ Some k → slice_get xs k ≡ Some x → slice_set xs k (f x) ≡ map (change key id f) xs
set-change key f [] id k x h e g = cc
set-change {X = X} key f (y ∷ ys) id k x h e g = by_test (λ j. set-change key f ys id j x (both-right (not (list_any (λ n. n == key y) (map key ys))) _ h)) (key y == id) refl k e g
  where
    none_left : key y ≡ id → list_any (λ n. n == id) (map key ys) ≡ false
    none_left same = subst (λ n. list_any (λ m. m == n) (map key ys) ≡ false) same (not_true _ (both-left _ _ h))

    here : (k : ℕ) → key y ≡ id → Some 0 ≡ Some k → slice_get (y ∷ ys) k ≡ Some x → slice_set (y ∷ ys) k (f x) ≡ f y ∷ map (change key id f) ys
    here zero same e g = let is : y ≡ x = cc in λ i. f (sym is i) ∷ sym (change-none key id f ys (none_left same)) i
    here (suc k) same e g = let no : 0 ≡ suc k = cc in absurd (omega (arith, no))

    behind : ((j : ℕ) → place_of key ys id ≡ Some j → slice_get ys j ≡ Some x → slice_set ys j (f x) ≡ map (change key id f) ys)
        → (o : Option ℕ) → place_of key ys id ≡ o → (k : ℕ) → option_map (λ n. suc n) o ≡ Some k → slice_get (y ∷ ys) k ≡ Some x → slice_set (y ∷ ys) k (f x) ≡ y ∷ map (change key id f) ys
    behind ih None o k e g = cc
    behind ih (Some j) o zero e g = let no : suc j ≡ 0 = cc in absurd (omega (arith, no))
    behind ih (Some j) o (suc k) e g = let same : suc j ≡ suc k = cc in let at : j ≡ k = omega (arith, same) in ap (λ zs. y ∷ zs) (ih k (o ∙ ap Some at) g)

    by_test : ((j : ℕ) → place_of key ys id ≡ Some j → slice_get ys j ≡ Some x → slice_set ys j (f x) ≡ map (change key id f) ys)
        → (b : Bool) → key y == id ≡ b → (k : ℕ) → cond b (Some 0) (option_map (λ n. suc n) (place_of key ys id)) ≡ Some k → slice_get (y ∷ ys) k ≡ Some x
        → slice_set (y ∷ ys) k (f x) ≡ cond b (f y) y ∷ map (change key id f) ys
    by_test ih true t k e g = here k (eqb-true (key y) id t) e g
    by_test ih false t k e g = behind ih (place_of key ys id) refl k e g

-- keys differ where a new one is put behind them
pub differ-append : (ns : List ℕ) (n : ℕ) → all_differ ns ≡ true → list_any (λ m. m == n) ns ≡ false → all_differ (ns ++ n ∷ []) ≡ true
differ-append [] n h new = refl
differ-append (m ∷ ns) n h new =
    λ i. not (any-append ns (not_true _ (both-left _ _ h)) i) && differ-append ns n (both-right (not (list_any (λ k. k == m) ns)) _ h) (neither-right (m == n) _ new) i
  where
    other : n == m ≡ false
    other = grind (arith, nat_tests, neither-left (m == n) _ new)

    any-append : (ns : List ℕ) → list_any (λ k. k == m) ns ≡ false → list_any (λ k. k == m) (ns ++ n ∷ []) ≡ false
    any-append [] h = λ i. other i || false
    any-append (k ∷ ns) h = λ i. neither-left (k == m) _ h i || any-append ns (neither-right (k == m) _ h) i

-- and where the last one goes
pub differ-front : (ns : List ℕ) (n : ℕ) → all_differ (ns ++ n ∷ []) ≡ true → (all_differ ns ≡ true) × (list_any (λ m. m == n) ns ≡ false)
differ-front [] n h = (refl, refl)
differ-front (m ∷ ns) n h =
    let none = not_true _ (both-left _ _ h) in
    let rest = differ-front ns n (both-right (not (list_any (λ k. k == m) (ns ++ n ∷ []))) _ h) in
    ((λ i. not (front ns none i) && rest.0 i), (λ i. other none i || rest.1 i))
  where
    front : (ns : List ℕ) → list_any (λ k. k == m) (ns ++ n ∷ []) ≡ false → list_any (λ k. k == m) ns ≡ false
    front [] h = refl
    front (k ∷ ns) h = λ i. neither-left (k == m) _ h i || front ns (neither-right (k == m) _ h) i

    last : (ns : List ℕ) → list_any (λ k. k == m) (ns ++ n ∷ []) ≡ false → n == m ≡ false
    last [] h = neither-left (n == m) _ h
    last (k ∷ ns) h = last ns (neither-right (k == m) _ h)

    other : list_any (λ k. k == m) (ns ++ n ∷ []) ≡ false → m == n ≡ false
    other none = grind (arith, nat_tests, last ns none)
