-- The row that so many others precede by key stands at this place of the sorted list.
use Rattle.std.specs.Prelude.{◌≡◌, ℕ, zero, suc, ◌+◌, Bool, true, false, not, ◌&&◌, ◌==◌, nat_lt, nat_le, cond, List, [], ◌∷◌, length, map, filter, find, count_by, Option, Some, None, slice_get, refl, ◌⊎◌, ◌||◌}
use Rattle.std.specs.List.{list_any, list_all}
use Rattle.std.specs.Option.{is_some}
use Rattle.std.proofs.Common.{sym, ◌∙◌, ap, arith, inl, inr}
use Rattle.std.proofs.lemmas.Bool.{eqb-true, eq-eqb}
use Rattle.std.proofs.lemmas.Bool.Decides.{nat_tests}
use Rattle.std.proofs.lemmas.List.Sums.{length-filter}
use Rattle.std.proofs.lemmas.Option.{slice_get_within, get_or_from_slice_get}
use Rattle.std.specs.Prelude.{Contains, IfSome}
use Rattle.sect_people.specs.Index.{rank}
use Rattle.sect_people.specs.Order.{insert_by, sorted_by, all_differ}
use Rattle.sect_model.proofs.Members.{Member, if_false, neither-left, neither-right, all-at, both-left, both-right, both, not_both, not_true, find-member, find-some}
use Rattle.sect_model.proofs.ListLemmas.{all-insert, got-all, any-sorted}
use Rattle.sect_model.proofs.EnrolLeave.{some_same}

-- an insertion adds one to the ranks of larger numbers
rank-insert : {X : Type 0} (key : X → ℕ) (n : ℕ) (x : X) (xs : List X) → rank key n (insert_by key x xs) ≡ cond (nat_lt (key x) n) 1 0 + rank key n xs
rank-insert key n x [] = by_test (nat_lt (key x) n)
  where
    by_test : (b : Bool) → cond b 1 0 ≡ cond b 1 0 + 0
    by_test true = refl
    by_test false = refl
rank-insert {X = X} key n x (y ∷ ys) = by_test (rank-insert key n x ys) (nat_le (key x) (key y)) (nat_lt (key x) n) (nat_lt (key y) n) refl refl refl
  where
    one : (m k : ℕ) → m ≡ 1 + k → suc m ≡ 1 + suc k
    one m k e = omega (arith, e)

    same : (m k : ℕ) → m ≡ 0 + k → suc m ≡ 0 + suc k
    same m k e = omega (arith, e)

    by_test : rank key n (insert_by key x ys) ≡ cond (nat_lt (key x) n) 1 0 + rank key n ys
        → (b p q : Bool) → nat_le (key x) (key y) ≡ b → nat_lt (key x) n ≡ p → nat_lt (key y) n ≡ q
        → rank key n (cond b (x ∷ y ∷ ys) (y ∷ insert_by key x ys)) ≡ cond p 1 0 + cond q (suc (rank key n ys)) 0
    by_test ih true true q tb tp tq = (λ i. cond (tp i) (suc (cond (tq i) (suc (rank key n ys)) 0)) 0) ∙ (omega arith)
    by_test ih true false true tb tp tq = absurd (grind (arith, nat_tests, tb, tp, tq))
    by_test ih true false false tb tp tq = (λ i. cond (tp i) (suc (cond (nat_lt (key y) n) (suc (rank key n ys)) 0)) 0)
    by_test ih false true true tb tp tq = (λ i. cond (tq i) (suc (rank key n (insert_by key x ys))) 0) ∙ one _ (rank key n ys) (ih ∙ (λ i. cond (tp i) 1 0 + rank key n ys))
    by_test ih false false true tb tp tq = (λ i. cond (tq i) (suc (rank key n (insert_by key x ys))) 0) ∙ same _ (rank key n ys) (ih ∙ (λ i. cond (tp i) 1 0 + rank key n ys))
    by_test ih false true false tb tp tq = absurd (grind (arith, nat_tests, tb, tp, tq))
    by_test ih false false false tb tp tq = (λ i. cond (tq i) (suc (rank key n (insert_by key x ys))) 0)

-- a number's rank in the sorted list is how many keys are below it
rank-sorted : {X : Type 0} (key : X → ℕ) (n : ℕ) (xs : List X) → rank key n (sorted_by key xs) ≡ length (filter (λ x. nat_lt (key x) n) xs)
rank-sorted key n [] = refl
rank-sorted {X = X} key n (x ∷ xs) = rank-insert key n x (sorted_by key xs) ∙ by_test (nat_lt (key x) n) (rank-sorted key n xs)
  where
    by_test : (b : Bool) → rank key n (sorted_by key xs) ≡ length (filter (λ x. nat_lt (key x) n) xs)
        → cond b 1 0 + rank key n (sorted_by key xs) ≡ length (cond b (x ∷ filter (λ x. nat_lt (key x) n) xs) (filter (λ x. nat_lt (key x) n) xs))
    by_test true ih = omega (arith, ih)
    by_test false ih = omega (arith, ih)

-- each is below those behind it
abbrev Strict : {X : Type 0} → (X → ℕ) → List X → Type 0
Strict key [] = Unit {0}
Strict key (x ∷ xs) = (list_all (λ y. nat_lt (key x) (key y)) xs ≡ true) × Strict key xs

strict-insert : {X : Type 0} (key : X → ℕ) (x : X) (xs : List X) → list_any (λ y. key y == key x) xs ≡ false → Strict key xs → Strict key (insert_by key x xs)
strict-insert key x [] h s = (refl, tt)
strict-insert {X = X} key x (y ∷ ys) h s = by_test (λ k. strict-insert key x ys k s.1) (nat_le (key x) (key y)) (key y == key x) refl refl h
  where
    larger : (z : X) → key x ≡ key x → nat_lt (key x) (key y) ≡ true → nat_lt (key y) (key z) ≡ true → nat_lt (key x) (key z) ≡ true
    larger z e a b = grind (arith, nat_tests, a, b)

    all_larger : (zs : List X) → nat_lt (key x) (key y) ≡ true → list_all (λ z. nat_lt (key y) (key z)) zs ≡ true → list_all (λ z. nat_lt (key x) (key z)) zs ≡ true
    all_larger [] a h = refl
    all_larger (z ∷ zs) a h =
        both (nat_lt (key x) (key z)) (list_all (λ z. nat_lt (key x) (key z)) zs)
        (larger z refl a (both-left (nat_lt (key y) (key z)) _ h)) (all_larger zs a (both-right (nat_lt (key y) (key z)) _ h))

    by_test : (list_any (λ y. key y == key x) ys ≡ false → Strict key (insert_by key x ys)) → (b e : Bool) → nat_le (key x) (key y) ≡ b → key y == key x ≡ e → e || list_any (λ y. key y == key x) ys ≡ false
        → Strict key (cond b (x ∷ y ∷ ys) (y ∷ insert_by key x ys))
    by_test ih b true t u h = absurd (not_both true refl h)
    by_test ih true false t u h =
        let less : nat_lt (key x) (key y) ≡ true = grind (arith, nat_tests, t, u) in
        (both (nat_lt (key x) (key y)) (list_all (λ z. nat_lt (key x) (key z)) ys) less (all_larger ys less s.0), s)
    by_test ih false false t u h =
        let less : nat_lt (key y) (key x) ≡ true = grind (arith, nat_tests, t, u) in
        (all-insert key (λ z. nat_lt (key y) (key z)) x ys ∙ both (nat_lt (key y) (key x)) (list_all (λ z. nat_lt (key y) (key z)) ys) less s.0, ih h)

any-map : {X Y : Type 0} (f : X → Y) (test : Y → Bool) (xs : List X) → list_any test (map f xs) ≡ list_any (λ x. test (f x)) xs
any-map f test [] = refl
any-map f test (x ∷ xs) = λ i. test (f x) || any-map f test xs i

-- no key stands twice among the sorted
strict-sorted : {X : Type 0} (key : X → ℕ) (xs : List X) → all_differ (map key xs) ≡ true → Strict key (sorted_by key xs)
strict-sorted key [] h = tt
strict-sorted key (x ∷ xs) h =
    strict-insert key x (sorted_by key xs)
    (any-sorted key (λ y. key y == key x) xs ∙ sym (any-map key (λ n. n == key x) xs) ∙ not_true _ (both-left (not (list_any (λ n. n == key x) (map key xs))) _ h))
    (strict-sorted key xs (both-right (not (list_any (λ n. n == key x) (map key xs))) _ h))

not_below : (n : ℕ) → nat_lt n n ≡ false
not_below n = grind (arith, nat_tests)

-- in a strictly rising list the place of an element is the rank of its key
rank-of : {X : Type 0} (key : X → ℕ) (xs : List X) (i : ℕ) (x : X) → Strict key xs → slice_get xs i ≡ Some x → rank key (key x) xs ≡ i
rank-of key [] i x s h = cc
rank-of key (y ∷ ys) zero x s h = λ j. cond ((ap (λ z. nat_lt (key z) (key x)) (some_same y x h) ∙ not_below (key x)) j) (suc (rank key (key x) ys)) 0
rank-of key (y ∷ ys) (suc i) x s h =
    (λ j. cond (got-all (λ z. nat_lt (key y) (key z)) ys i x h s.0 j) (suc (rank key (key x) ys)) 0) ∙ ap (λ n. suc n) (rank-of key ys i x s.1 h)

-- and an element stands at the rank of its key
get-rank : {X : Type 0} (key : X → ℕ) (xs : List X) (x : X) → Strict key xs → Member xs x → slice_get xs (rank key (key x) xs) ≡ Some x
get-rank key [] x s m = absurd m
get-rank {X = X} key (y ∷ ys) x s m = by_place (get-rank key ys x s.1) m
  where
    by_place : (Member ys x → slice_get ys (rank key (key x) ys) ≡ Some x) → (y ≡ x) ⊎ Member ys x → slice_get (y ∷ ys) (cond (nat_lt (key y) (key x)) (suc (rank key (key x) ys)) 0) ≡ Some x
    by_place ih (inl e) = (λ j. slice_get (y ∷ ys) (cond ((ap (λ z. nat_lt (key z) (key x)) e ∙ not_below (key x)) j) (suc (rank key (key x) ys)) 0)) ∙ ap (λ z. Some z) e
    by_place ih (inr m) = (λ j. slice_get (y ∷ ys) (cond (all-at (λ z. nat_lt (key y) (key z)) ys s.0 x m j) (suc (rank key (key x) ys)) 0)) ∙ ih m

-- sorting keeps the members
member-insert : {X : Type 0} (key : X → ℕ) (x : X) (xs : List X) (z : X) → (x ≡ z) ⊎ Member xs z → Member (insert_by key x xs) z
member-insert key x [] z m = m
member-insert {X = X} key x (y ∷ ys) z m = by_test (member-insert key x ys z) (nat_le (key x) (key y)) m
  where
    by_test : ((x ≡ z) ⊎ Member ys z → Member (insert_by key x ys) z) → (b : Bool) → (x ≡ z) ⊎ ((y ≡ z) ⊎ Member ys z) → Member (cond b (x ∷ y ∷ ys) (y ∷ insert_by key x ys)) z
    by_test ih true m = m
    by_test ih false (inl e) = inr (ih (inl e))
    by_test ih false (inr (inl e)) = inl e
    by_test ih false (inr (inr n)) = inr (ih (inr n))

member-inserted : {X : Type 0} (key : X → ℕ) (x : X) (xs : List X) (z : X) → Member (insert_by key x xs) z → (x ≡ z) ⊎ Member xs z
member-inserted key x [] z m = m
member-inserted {X = X} key x (y ∷ ys) z m = by_test (member-inserted key x ys z) (nat_le (key x) (key y)) m
  where
    back : (x ≡ z) ⊎ Member ys z → (x ≡ z) ⊎ ((y ≡ z) ⊎ Member ys z)
    back (inl e) = inl e
    back (inr n) = inr (inr n)

    by_test : (Member (insert_by key x ys) z → (x ≡ z) ⊎ Member ys z) → (b : Bool) → Member (cond b (x ∷ y ∷ ys) (y ∷ insert_by key x ys)) z → (x ≡ z) ⊎ ((y ≡ z) ⊎ Member ys z)
    by_test ih true m = m
    by_test ih false (inl e) = inr (inl e)
    by_test ih false (inr n) = back (ih n)

pub member-sorted : {X : Type 0} (key : X → ℕ) (xs : List X) (z : X) → Member xs z → Member (sorted_by key xs) z
member-sorted key [] z m = m
member-sorted {X = X} key (x ∷ xs) z m = member-insert key x (sorted_by key xs) z (by_place (member-sorted key xs z) m)
  where
    by_place : (Member xs z → Member (sorted_by key xs) z) → (x ≡ z) ⊎ Member xs z → (x ≡ z) ⊎ Member (sorted_by key xs) z
    by_place ih (inl e) = inl e
    by_place ih (inr n) = inr (ih n)

pub member-of_sorted : {X : Type 0} (key : X → ℕ) (xs : List X) (z : X) → Member (sorted_by key xs) z → Member xs z
member-of_sorted key [] z m = m
member-of_sorted {X = X} key (x ∷ xs) z m = by_place (member-of_sorted key xs z) (member-inserted key x (sorted_by key xs) z m)
  where
    by_place : (Member (sorted_by key xs) z → Member xs z) → (x ≡ z) ⊎ Member (sorted_by key xs) z → (x ≡ z) ⊎ Member xs z
    by_place ih (inl e) = inl e
    by_place ih (inr n) = inr (ih n)

pub member-got : {X : Type 0} (xs : List X) (i : ℕ) (x : X) → slice_get xs i ≡ Some x → Member xs x
member-got [] i x h = cc
member-got (y ∷ ys) zero x h = inl (some_same y x h)
member-got (y ∷ ys) (suc i) x h = inr (member-got ys i x h)

-- how many keys are below the number
abbrev pub below : {X : Type 0} → (X → ℕ) → ℕ → List X → ℕ
below key n xs = count_by (λ y. nat_lt (key y) n) xs

rank-below : {X : Type 0} (key : X → ℕ) (n : ℕ) (xs : List X) → rank key n (sorted_by key xs) ≡ below key n xs
rank-below key n xs = rank-sorted key n xs ∙ length-filter (λ y. nat_lt (key y) n) xs

-- where keys differ, the element that i others precede stands at place i of the sorted list
pub nth-is : {X : Type 0} (key : X → ℕ) (xs : List X) (i : ℕ) (x : X) → all_differ (map key xs) ≡ true → Member xs x → below key (key x) xs ≡ i → Some x ≡ slice_get (sorted_by key xs) i
nth-is key xs i x d m e =
    sym (get-rank key (sorted_by key xs) x (strict-sorted key xs d) (member-sorted key xs x m)) ∙ ap (slice_get (sorted_by key xs)) (rank-below key (key x) xs ∙ e)

-- so it is what a scan finds
pub nth-found : {X : Type 0} (key : X → ℕ) (xs : List X) (i : ℕ) → all_differ (map key xs) ≡ true → find (λ x. below key (key x) xs == i) xs ≡ slice_get (sorted_by key xs) i
nth-found {X = X} key xs i d = by_found (find test xs) refl
  where
    test : X → Bool
    test x = below key (key x) xs == i

    none : (o : Option X) → slice_get (sorted_by key xs) i ≡ o → find test xs ≡ None → None ≡ slice_get (sorted_by key xs) i
    none None e f = sym e
    none (Some x) e f =
        let at : below key (key x) xs ≡ i = sym (rank-below key (key x) xs) ∙ rank-of key (sorted_by key xs) i x (strict-sorted key xs d) e in
        absurd (not_both (is_some (find test xs))
        (find-some test xs x (member-of_sorted key xs x (member-got (sorted_by key xs) i x e)) (eq-eqb (below key (key x) xs) i at)) (ap is_some f))

    by_found : (o : Option X) → find test xs ≡ o → o ≡ slice_get (sorted_by key xs) i
    by_found None f = none (slice_get (sorted_by key xs) i) refl f
    by_found (Some x) f =
        let m = find-member test xs x f in
        nth-is key xs i x d m.0 (eqb-true (below key (key x) xs) i m.1)

-- a filter by two tests
pub filter-both : {X : Type 0} (p q : X → Bool) (xs : List X) → filter (λ x. p x && q x) xs ≡ filter q (filter p xs)
filter-both p q [] = refl
filter-both {X = X} p q (x ∷ xs) = by_test (p x) (filter-both p q xs)
  where
    by_test : (b : Bool) → filter (λ x. p x && q x) xs ≡ filter q (filter p xs)
        → cond (b && q x) (x ∷ filter (λ x. p x && q x) xs) (filter (λ x. p x && q x) xs) ≡ filter q (cond b (x ∷ filter p xs) (filter p xs))
    by_test true ih = λ i. cond (q x) (x ∷ ih i) (ih i)
    by_test false ih = ih

-- a search among those that pass
pub find-both : {X : Type 0} (p q : X → Bool) (xs : List X) → find (λ x. p x && q x) xs ≡ find q (filter p xs)
find-both p q [] = refl
find-both {X = X} p q (x ∷ xs) = by_test (p x) (find-both p q xs)
  where
    by_test : (b : Bool) → find (λ x. p x && q x) xs ≡ find q (filter p xs) → cond (b && q x) (Some x) (find (λ x. p x && q x) xs) ≡ find q (cond b (x ∷ filter p xs) (filter p xs))
    by_test true ih = λ i. cond (q x) (Some x) (ih i)
    by_test false ih = ih

count-both : {X : Type 0} (p q : X → Bool) (xs : List X) → count_by (λ x. p x && q x) xs ≡ count_by q (filter p xs)
count-both p q xs = sym (length-filter (λ x. p x && q x) xs) ∙ ap length (filter-both p q xs) ∙ length-filter q (filter p xs)

none-filter : {X : Type 0} (key : X → ℕ) (p : X → Bool) (n : ℕ) (xs : List X) → list_any (λ m. m == n) (map key xs) ≡ false → list_any (λ m. m == n) (map key (filter p xs)) ≡ false
none-filter key p n [] h = refl
none-filter {X = X} key p n (x ∷ xs) h = by_test (p x) (neither-left (key x == n) _ h) (none-filter key p n xs (neither-right (key x == n) _ h))
  where
    by_test : (b : Bool) → key x == n ≡ false → list_any (λ m. m == n) (map key (filter p xs)) ≡ false → list_any (λ m. m == n) (map key (cond b (x ∷ filter p xs) (filter p xs))) ≡ false
    by_test true e ih = (λ i. e i || list_any (λ m. m == n) (map key (filter p xs))) ∙ ih
    by_test false e ih = ih

-- keys that differ do so in a part of the list
pub differ-filter : {X : Type 0} (key : X → ℕ) (p : X → Bool) (xs : List X) → all_differ (map key xs) ≡ true → all_differ (map key (filter p xs)) ≡ true
differ-filter key p [] h = refl
differ-filter {X = X} key p (x ∷ xs) h =
    by_test (p x) (differ-filter key p xs (both-right (not (list_any (λ m. m == key x) (map key xs))) _ h))
    (none-filter key p (key x) xs (not_true _ (both-left (not (list_any (λ m. m == key x) (map key xs))) _ h)))
  where
    by_test : (b : Bool) → all_differ (map key (filter p xs)) ≡ true → list_any (λ m. m == key x) (map key (filter p xs)) ≡ false → all_differ (map key (cond b (x ∷ filter p xs) (filter p xs))) ≡ true
    by_test true ih e = both (not (list_any (λ m. m == key x) (map key (filter p xs)))) (all_differ (map key (filter p xs))) (if_false _ e) ih
    by_test false ih e = ih

-- the element that i others of its part precede
pub nth-part : {X : Type 0} (key : X → ℕ) (p : X → Bool) (xs : List X) (i : ℕ) → all_differ (map key xs) ≡ true
    → find (λ x. p x && (count_by (λ y. p y && nat_lt (key y) (key x)) xs == i)) xs ≡ slice_get (sorted_by key (filter p xs)) i
nth-part key p xs i d =
    (λ j. find (λ x. p x && (count-both p (λ y. nat_lt (key y) (key x)) xs j == i)) xs)
    ∙ find-both p (λ x. below key (key x) (filter p xs) == i) xs
    ∙ nth-found key (filter p xs) i (differ-filter key p xs d)

-- what stands at a place is contained
pub got-contained : {X : Type 0} (xs : List X) (i : ℕ) (r : Option X) → r ≡ slice_get xs i → IfSome r (λ x. Contains xs x)
got-contained xs i None e = tt
got-contained xs i (Some x) e = (i, slice_get_within xs i x (sym e), get_or_from_slice_get xs i x x (sym e))
