-- A list in rising order is what sorting gives of any list of the same elements.
use Rattle.std.specs.Prelude.{◌≡◌, ℕ, suc, ◌+◌, Bool, true, false, ◌==◌, nat_le, cond, List, [], ◌∷◌, map, sum_by, refl, ◌⊎◌}
use Rattle.std.specs.List.Sorted.{IsPermutation, IsNonDecreasingBy}
use Rattle.std.proofs.Common.{◌<◌, ◌≤◌, length, get_or, sym, ◌∙◌, ap, arith, inl, inr}
use Rattle.std.proofs.lemmas.Bool.{cases_lt}
use Rattle.std.proofs.lemmas.Bool.Decides.{nat_tests}
use Rattle.std.proofs.lemmas.List.Sorted.{sum_by-IsPermutation}
use Rattle.std.proofs.lemmas.List.Sums.{sum_by-cons}
use Rattle.sect_people.specs.Order.{insert_by, sorted_by}
use Rattle.sect_people.proofs.RankLemmas.{rest_rises}
use Rattle.sect_people.proofs.OrderLemmas.{sorted_by-rises, map-sorted_by}

-- how many elements have the key
abbrev pub times : {X : Type 0} → (X → ℕ) → ℕ → List X → ℕ
times key n [] = 0
times key n (x ∷ xs) = cond (key x == n) (suc (times key n xs)) (times key n xs)

times-sum : {X : Type 0} (key : X → ℕ) (n : ℕ) (xs : List X) → times key n xs ≡ sum_by (λ x. cond (key x == n) 1 0) xs
times-sum key n [] = refl
times-sum key n (x ∷ xs) = one (key x == n) (times key n xs) (sum_by (λ x. cond (key x == n) 1 0) xs) (times-sum key n xs) ∙ sym (sum_by-cons (λ x. cond (key x == n) 1 0) x xs)
  where
    one : (b : Bool) (t s : ℕ) → t ≡ s → cond b (suc t) t ≡ cond b 1 0 + s
    one true t s h = omega (arith, h)
    one false t s h = omega (arith, h)

times-insert : {X : Type 0} (key : X → ℕ) (n : ℕ) (x : X) (xs : List X) → times key n (insert_by key x xs) ≡ cond (key x == n) (suc (times key n xs)) (times key n xs)
times-insert key n x [] = refl
times-insert {X = X} key n x (y ∷ ys) = by_test (nat_le (key x) (key y)) (times-insert key n x ys)
  where
    swapped : (a b : Bool) (t : ℕ) → cond a (suc (cond b (suc t) t)) (cond b (suc t) t) ≡ cond b (suc (cond a (suc t) t)) (cond a (suc t) t)
    swapped true true t = refl
    swapped true false t = refl
    swapped false true t = refl
    swapped false false t = refl

    by_test : (b : Bool) → times key n (insert_by key x ys) ≡ cond (key x == n) (suc (times key n ys)) (times key n ys)
        → times key n (cond b (x ∷ y ∷ ys) (y ∷ insert_by key x ys)) ≡ cond (key x == n) (suc (times key n (y ∷ ys))) (times key n (y ∷ ys))
    by_test true ih = refl
    by_test false ih = ap (λ t. cond (key y == n) (suc t) t) ih ∙ swapped (key y == n) (key x == n) (times key n ys)

pub times-sorted : {X : Type 0} (key : X → ℕ) (n : ℕ) (xs : List X) → times key n (sorted_by key xs) ≡ times key n xs
times-sorted key n [] = refl
times-sorted key n (x ∷ xs) = times-insert key n x (sorted_by key xs) ∙ ap (λ t. cond (key x == n) (suc t) t) (times-sorted key n xs)

other : (m n : ℕ) → n < m → m == n ≡ false
other m n h = grind (arith, nat_tests, h)

self : (n : ℕ) → n == n ≡ true
self n = grind (arith, nat_tests)

-- no key stands among larger ones
none-below : {X : Type 0} (key : X → ℕ) (n : ℕ) (xs : List X) → ((j : ℕ) (d : X) → j < length xs → n < key (get_or xs j d)) → times key n xs ≡ 0
none-below key n [] h = refl
none-below key n (x ∷ xs) h =
    ap (λ b. cond b (suc (times key n xs)) (times key n xs)) (other (key x) n (h 0 x (omega arith)))
    ∙ none-below key n xs (λ j d l. h (suc j) d (omega (arith, l)))

-- the first key is at most each
first-least : {X : Type 0} (key : X → ℕ) (x : X) (xs : List X) → IsNonDecreasingBy key (x ∷ xs) → (n : ℕ) → n < key x → (j : ℕ) (d : X) → j < length (x ∷ xs) → n < key (get_or (x ∷ xs) j d)
first-least key x xs up n h j d l = omega (arith, up 0 j d (omega arith) l, h)

has-first : {X : Type 0} (key : X → ℕ) (x : X) (xs : List X) → times key (key x) (x ∷ xs) ≡ suc (times key (key x) xs)
has-first key x xs = ap (λ b. cond b (suc (times key (key x) xs)) (times key (key x) xs)) (self (key x))

-- lists that rise and have each key equally often are one
pub one-order : {X : Type 0} (key : X → ℕ) → ((x y : X) → key x ≡ key y → x ≡ y) → (xs ys : List X) → IsNonDecreasingBy key xs → IsNonDecreasingBy key ys → ((n : ℕ) → times key n xs ≡ times key n ys) → xs ≡ ys
one-order key unique [] [] up vp same = refl
one-order key unique [] (y ∷ ys) up vp same = absurd (omega (arith, same (key y), has-first key y ys))
one-order key unique (x ∷ xs) [] up vp same = absurd (omega (arith, same (key x), has-first key x xs))
one-order {X = X} key unique (x ∷ xs) (y ∷ ys) up vp same = by_order (λ f. one-order key unique xs ys (rest_rises key x xs up) (rest_rises key y ys vp) f) (cases_lt (key x) (key y)) (cases_lt (key y) (key x))
  where
    drop-one : (b c : Bool) (s t : ℕ) → b ≡ c → cond b (suc s) s ≡ cond c (suc t) t → s ≡ t
    drop-one true true s t e h = omega (arith, h)
    drop-one true false s t e h = cc
    drop-one false true s t e h = cc
    drop-one false false s t e h = h

    rest : key x ≡ key y → (n : ℕ) → times key n xs ≡ times key n ys
    rest e n = drop-one (key x == n) (key y == n) (times key n xs) (times key n ys) (ap (λ k. k == n) e) (same n)

    joined : x ≡ y → xs ≡ ys → x ∷ xs ≡ y ∷ ys
    joined e f = λ i. e i ∷ f i

    by_order : (((n : ℕ) → times key n xs ≡ times key n ys) → xs ≡ ys) → (key x < key y) ⊎ (key y ≤ key x) → (key y < key x) ⊎ (key x ≤ key y) → x ∷ xs ≡ y ∷ ys
    by_order ih (inl lt) o =
        absurd (omega (arith, same (key x), has-first key x xs, none-below key (key x) (y ∷ ys) (first-least key y ys vp (key x) lt)))
    by_order ih (inr ge) (inl lt) =
        absurd (omega (arith, same (key y), has-first key y ys, none-below key (key y) (x ∷ xs) (first-least key x xs up (key y) lt)))
    by_order ih (inr ge) (inr le) =
        let e : key x ≡ key y = omega (arith, ge, le) in
        joined (unique x y e) (ih (rest e))

pub sorted-is : {X : Type 0} (key : X → ℕ) → ((x y : X) → key x ≡ key y → x ≡ y) → (xs ys : List X) → IsPermutation xs ys → IsNonDecreasingBy key ys → ys ≡ sorted_by key xs
sorted-is key unique xs ys moved up =
    one-order key unique ys (sorted_by key xs) up (sorted_by-rises key xs)
    (λ n. times-sum key n ys ∙ sum_by-IsPermutation (λ x. cond (key x == n) 1 0) xs ys moved ∙ sym (times-sum key n xs) ∙ sym (times-sorted key n xs))

-- the sorted ids of rows are those of the sorted rows
pub ids-sorted : {X D : Type 0} (id : X → D) (key : D → ℕ) → ((x y : D) → key x ≡ key y → x ≡ y) → (xs : List X) (before ids : List D) → before ≡ map id xs → IsPermutation before ids → IsNonDecreasingBy key ids
    → ids ≡ map id (sorted_by (λ x. key (id x)) xs)
ids-sorted id key unique xs before ids is moved up =
    sorted-is key unique before ids moved up ∙ ap (sorted_by key) is ∙ sym (map-sorted_by id (λ x. key (id x)) key (λ x. refl) xs)
