-- An element put behind those of its key: tests, sums, counts, look-ups and the order of the list.
use Rattle.std.specs.Prelude.{◌≡◌, ℕ, ◌+◌, Bool, true, false, not, ◌&&◌, ◌||◌, ◌==◌, nat_le, cond, List, [], ◌∷◌, ◌++◌, length, map, filter, find, sum_by, Some, refl}
use Rattle.std.specs.List.{list_any, list_all}
use Rattle.std.proofs.Common.{sym, ◌∙◌, ap, subst, arith, inl, inr}
use Rattle.std.proofs.lemmas.Bool.{eq-eqb}
use Rattle.std.proofs.lemmas.Bool.Decides.{nat_tests}
use Rattle.std.proofs.lemmas.List.Folds.{list_all-map}
use Rattle.std.proofs.lemmas.List.Sums.{sum_by-cons}
use Rattle.sect_people.specs.Order.{all_differ}
use Rattle.sect_model.specs.World.{put_behind}
use Rattle.sect_model.specs.Kept.{is_ordered_by}
use Rattle.sect_model.proofs.Members.{Member, all-at, all-of, both, both-left, both-right, not_true, none-of}

-- ---- tests and sums

pub all-put : {X : Type 0} (key : X → ℕ) (test : X → Bool) (x : X) (xs : List X) → test x ≡ true → list_all test xs ≡ true → list_all test (put_behind key x xs) ≡ true
all-put key test x [] t h = both (test x) true t refl
all-put key test x (y ∷ ys) t h = by_test (nat_le (key y) (key x)) (all-put key test x ys t (both-right (test y) _ h))
  where
    by_test : (b : Bool) → list_all test (put_behind key x ys) ≡ true → list_all test (cond b (y ∷ put_behind key x ys) (x ∷ y ∷ ys)) ≡ true
    by_test true ih = both (test y) _ (both-left (test y) _ h) ih
    by_test false ih = both (test x) _ t h

pub none-put : {X : Type 0} (key id : X → ℕ) (test : ℕ → Bool) (x : X) (xs : List X) → test (id x) ≡ false → list_any test (map id xs) ≡ false → list_any test (map id (put_behind key x xs)) ≡ false
none-put key id test x [] t h = λ i. t i || false
none-put key id test x (y ∷ ys) t h = by_test (nat_le (key y) (key x)) (none-put key id test x ys t (neither-right (test (id y)) _ h))
  where
    neither-left : (a b : Bool) → a || b ≡ false → a ≡ false
    neither-left true b h = h
    neither-left false b h = refl

    neither-right : (a b : Bool) → a || b ≡ false → b ≡ false
    neither-right true b h = cc
    neither-right false b h = h

    by_test : (b : Bool) → list_any test (map id (put_behind key x ys)) ≡ false → list_any test (map id (cond b (y ∷ put_behind key x ys) (x ∷ y ∷ ys))) ≡ false
    by_test true ih = (λ i. neither-left (test (id y)) _ h i || list_any test (map id (put_behind key x ys))) ∙ ih
    by_test false ih = (λ i. t i || list_any test (map id (y ∷ ys))) ∙ h

pub sum-put : {X : Type 0} (key f : X → ℕ) (x : X) (xs : List X) → sum_by f (put_behind key x xs) ≡ f x + sum_by f xs
sum-put key f x [] = sum_by-cons f x []
sum-put key f x (y ∷ ys) = by_test (nat_le (key y) (key x)) (sum-put key f x ys)
  where
    by_test : (b : Bool) → sum_by f (put_behind key x ys) ≡ f x + sum_by f ys → sum_by f (cond b (y ∷ put_behind key x ys) (x ∷ y ∷ ys)) ≡ f x + sum_by f (y ∷ ys)
    by_test true ih = omega (arith, ih, sum_by-cons f y ys, sum_by-cons f y (put_behind key x ys))
    by_test false ih = sum_by-cons f x (y ∷ ys)

-- one more where the element passes
pub count-put : {X : Type 0} (key : X → ℕ) (p : X → Bool) (x : X) (xs : List X) → length (filter p (put_behind key x xs)) ≡ cond (p x) 1 0 + length (filter p xs)
count-put key p x [] = by_test (p x)
  where
    by_test : (b : Bool) → length (cond b (x ∷ []) []) ≡ cond b 1 0 + 0
    by_test true = refl
    by_test false = refl
count-put {X = X} key p x (y ∷ ys) = by_order (nat_le (key y) (key x)) (count-put key p x ys)
  where
    count-cons : (zs : List X) (z : X) (b : Bool) → length (cond b (z ∷ filter p zs) (filter p zs)) ≡ cond b 1 0 + length (filter p zs)
    count-cons zs z true = omega arith
    count-cons zs z false = omega arith

    by_order : (b : Bool) → length (filter p (put_behind key x ys)) ≡ cond (p x) 1 0 + length (filter p ys)
        → length (filter p (cond b (y ∷ put_behind key x ys) (x ∷ y ∷ ys))) ≡ cond (p x) 1 0 + length (filter p (y ∷ ys))
    by_order true ih = omega (arith, ih, count-cons (put_behind key x ys) y (p y), count-cons ys y (p y))
    by_order false ih = count-cons (y ∷ ys) x (p x)

-- ---- look-ups

-- a look-up that doesn't pass the element finds what it found
pub find-put : {X : Type 0} (key : X → ℕ) (test : X → Bool) (x : X) (xs : List X) → test x ≡ false → find test (put_behind key x xs) ≡ find test xs
find-put key test x [] t = ap (λ b. cond b (Some x) (find test [])) t
find-put key test x (y ∷ ys) t = by_test (nat_le (key y) (key x)) (find-put key test x ys t)
  where
    by_test : (b : Bool) → find test (put_behind key x ys) ≡ find test ys → find test (cond b (y ∷ put_behind key x ys) (x ∷ y ∷ ys)) ≡ find test (y ∷ ys)
    by_test true ih = ap (λ o. cond (test y) (Some y) o) ih
    by_test false ih = ap (λ b. cond b (Some x) (find test (y ∷ ys))) t

-- a filter that doesn't pass the element keeps what it kept
pub filter-put : {X : Type 0} (key : X → ℕ) (p : X → Bool) (x : X) (xs : List X) → p x ≡ false → filter p (put_behind key x xs) ≡ filter p xs
filter-put key p x [] t = ap (λ b. cond b (x ∷ []) []) t
filter-put key p x (y ∷ ys) t = by_test (nat_le (key y) (key x)) (filter-put key p x ys t)
  where
    by_test : (b : Bool) → filter p (put_behind key x ys) ≡ filter p ys → filter p (cond b (y ∷ put_behind key x ys) (x ∷ y ∷ ys)) ≡ filter p (y ∷ ys)
    by_test true ih = ap (λ zs. cond (p y) (y ∷ zs) zs) ih
    by_test false ih = ap (λ b. cond b (x ∷ filter p (y ∷ ys)) (filter p (y ∷ ys))) t

-- numbers that differ still do with a new one among them
pub differ-put : {X : Type 0} (key id : X → ℕ) (x : X) (xs : List X) → all_differ (map id xs) ≡ true → ((m : ℕ) → Member (map id xs) m → m == id x ≡ false)
    → all_differ (map id (put_behind key x xs)) ≡ true
differ-put key id x [] h new = refl
differ-put key id x (y ∷ ys) h new =
    by_test (nat_le (key y) (key x)) (differ-put key id x ys (both-right (not (list_any (λ m. m == id y) (map id ys))) _ h) (λ m i. new m (inr i)))
  where
    turn : (a b : ℕ) → a == b ≡ false → b == a ≡ false
    turn a b h = grind (arith, nat_tests)

    by_test : (b : Bool) → all_differ (map id (put_behind key x ys)) ≡ true → all_differ (map id (cond b (y ∷ put_behind key x ys) (x ∷ y ∷ ys))) ≡ true
    by_test true ih =
        both (not (list_any (λ m. m == id y) (map id (put_behind key x ys)))) _
        (ap not (none-put key id (λ m. m == id y) x ys (turn (id y) (id x) (new (id y) (inl refl))) (not_true _ (both-left _ _ h)))) ih
    by_test false ih = both (not (list_any (λ m. m == id x) (map id (y ∷ ys)))) _ (ap not (none-of (λ m. m == id x) (map id (y ∷ ys)) new)) h

-- ---- order

-- those behind the element come later in the order
pub behind-put : {X : Type 0} (key : X → ℕ) (n : ℕ) (x : X) (xs : List X) → is_ordered_by key (x ∷ xs) ≡ true → nat_le (key x) n ≡ false → (y : X) → Member (x ∷ xs) y → nat_le (key y) n ≡ false
behind-put key n x xs h less y (inl same) = subst (λ z. nat_le (key z) n ≡ false) same less
behind-put key n x xs h less y (inr m) = later (key x) (key y) n less (all-at (λ z. nat_le (key x) (key z)) xs (both-left _ _ h) y m)
  where
    later : (a b c : ℕ) → nat_le a c ≡ false → nat_le a b ≡ true → nat_le b c ≡ false
    later a b c f g = grind (arith, nat_tests)

pub ordered-put : {X : Type 0} (key : X → ℕ) (x : X) (xs : List X) → is_ordered_by key xs ≡ true → is_ordered_by key (put_behind key x xs) ≡ true
ordered-put key x [] h = refl
ordered-put key x (y ∷ ys) h = by_test (nat_le (key y) (key x)) refl (ordered-put key x ys (both-right (list_all (λ z. nat_le (key y) (key z)) ys) _ h))
  where
    turned : (a b : ℕ) → nat_le a b ≡ false → nat_le b a ≡ true
    turned a b h = grind (arith, nat_tests)

    by_test : (b : Bool) → nat_le (key y) (key x) ≡ b → is_ordered_by key (put_behind key x ys) ≡ true → is_ordered_by key (cond b (y ∷ put_behind key x ys) (x ∷ y ∷ ys)) ≡ true
    by_test true le ih =
        both (list_all (λ z. nat_le (key y) (key z)) (put_behind key x ys)) _
        (all-put key (λ z. nat_le (key y) (key z)) x ys le (both-left _ _ h)) ih
    by_test false less ih =
        both (list_all (λ z. nat_le (key x) (key z)) (y ∷ ys)) (is_ordered_by key (y ∷ ys))
        (all-of (λ z. nat_le (key x) (key z)) (y ∷ ys) (λ z m. turned (key z) (key x) (behind-put key (key x) y ys h less z m))) h

-- the order is that of the keys
ordered-keys : {X : Type 0} (key : X → ℕ) (xs : List X) → is_ordered_by key xs ≡ is_ordered_by (λ n. n) (map key xs)
ordered-keys key [] = refl
ordered-keys key (x ∷ xs) = λ i. sym (list_all-map (λ n. nat_le (key x) n) key xs) i && ordered-keys key xs i

-- a change that keeps the keys keeps the order
pub ordered-map : {X : Type 0} (key : X → ℕ) (f : X → X) (xs : List X) → ((x : X) → key (f x) ≡ key x) → is_ordered_by key (map f xs) ≡ is_ordered_by key xs
ordered-map key f xs same = ordered-keys key (map f xs) ∙ ap (is_ordered_by (λ n. n)) (keys xs) ∙ sym (ordered-keys key xs)
  where
    keys : (zs : List _) → map key (map f zs) ≡ map key zs
    keys [] = refl
    keys (z ∷ zs) = λ i. same z i ∷ keys zs i

-- the elements of the key are the same, and one more behind them
pub keyed-put : {X : Type 0} (key : X → ℕ) (x : X) (xs : List X) → is_ordered_by key xs ≡ true → filter (λ y. key y == key x) (put_behind key x xs) ≡ filter (λ y. key y == key x) xs ++ x ∷ []
keyed-put key x [] h = ap (λ b. cond b (x ∷ []) []) (eq-eqb (key x) (key x) refl)
keyed-put {X = X} key x (y ∷ ys) h = by_order (nat_le (key y) (key x)) refl (keyed-put key x ys (both-right (list_all (λ z. nat_le (key y) (key z)) ys) _ h))
  where
    unlike : (a b : ℕ) → nat_le a b ≡ false → a == b ≡ false
    unlike a b h = grind (arith, nat_tests)

    none : (zs : List X) → ((z : X) → Member zs z → key z == key x ≡ false) → filter (λ z. key z == key x) zs ≡ []
    none [] h = refl
    none (z ∷ zs) h = (λ i. cond (h z (inl refl) i) (z ∷ filter (λ z. key z == key x) zs) (filter (λ z. key z == key x) zs)) ∙ none zs (λ y m. h y (inr m))

    kept : (b : Bool) (zs : List X) → cond b (y ∷ (zs ++ x ∷ [])) (zs ++ x ∷ []) ≡ cond b (y ∷ zs) zs ++ x ∷ []
    kept true zs = refl
    kept false zs = refl

    by_order : (b : Bool) → nat_le (key y) (key x) ≡ b → filter (λ z. key z == key x) (put_behind key x ys) ≡ filter (λ z. key z == key x) ys ++ x ∷ []
        → filter (λ z. key z == key x) (cond b (y ∷ put_behind key x ys) (x ∷ y ∷ ys)) ≡ filter (λ z. key z == key x) (y ∷ ys) ++ x ∷ []
    by_order true le ih = ap (λ zs. cond (key y == key x) (y ∷ zs) zs) ih ∙ kept (key y == key x) (filter (λ z. key z == key x) ys)
    by_order false less ih =
        (λ i. cond (eq-eqb (key x) (key x) refl i) (x ∷ filter (λ z. key z == key x) (y ∷ ys)) (filter (λ z. key z == key x) (y ∷ ys)))
        ∙ (λ i. x ∷ all_later i) ∙ (λ i. sym all_later i ++ x ∷ [])
      where
        all_later : filter (λ z. key z == key x) (y ∷ ys) ≡ []
        all_later = none (y ∷ ys) (λ z m. unlike (key z) (key x) (behind-put key (key x) y ys h less z m))
