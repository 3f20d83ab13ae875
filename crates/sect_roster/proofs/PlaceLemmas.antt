-- Where elements stand in a list in order of a key.
use Rattle.std.specs.Prelude.{◌≡◌, ℕ, zero, suc, ◌+◌, ◌<◌, ◌≤◌, Bool, true, false, not, ◌||◌, ◌==◌, nat_lt, nat_le, cond, List, [], ◌∷◌, ◌++◌, length, filter, find, take, drop, insert, position, slice_get, Some, None, refl}
use Rattle.std.specs.List.{list_any, list_all, position_or_len}
use Rattle.std.specs.List.Sorted.{IsNonDecreasingBy}
use Rattle.std.specs.Option.{is_some}
use Rattle.std.proofs.Common.{sym, ◌∙◌, ap, arith, get_or}
use Rattle.std.proofs.lemmas.List.Folds.{find_at}
use Rattle.std.proofs.lemmas.Option.{slice_get_read}
use Rattle.std.proofs.lemmas.Bool.Decides.{nat_tests}
use Rattle.sect_people.specs.Index.{rank}
use Rattle.sect_model.specs.World.{put_behind}
use Rattle.sect_model.specs.Kept.{is_ordered_by}
use Rattle.sect_model.proofs.Members.{both-left, both-right, not_both}
use Rattle.sect_model.proofs.ListLemmas.{at_most, some-is}

-- ---- order

all-index : {X : Type 0} (test : X → Bool) (xs : List X) → list_all test xs ≡ true → (k : ℕ) (d : X) → k < length xs → test (get_or xs k d) ≡ true
all-index test [] h k d l = absurd (omega (arith, l))
all-index test (x ∷ xs) h zero d l = both-left (test x) _ h
all-index test (x ∷ xs) h (suc k) d l = all-index test xs (both-right (test x) _ h) k d (omega (arith, l))

-- a list in order doesn't fall
pub rises : {X : Type 0} (key : X → ℕ) (xs : List X) → is_ordered_by key xs ≡ true → IsNonDecreasingBy key xs
rises key [] h i j d le l = absurd (omega (arith, l))
rises key (x ∷ xs) h zero zero d le l = omega arith
rises key (x ∷ xs) h zero (suc j) d le l = at_most _ _ (all-index (λ y. nat_le (key x) (key y)) xs (both-left _ _ h) j d (omega (arith, l)))
rises key (x ∷ xs) h (suc i) zero d le l = absurd (omega (arith, le))
rises key (x ∷ xs) h (suc i) (suc j) d le l = rises key xs (both-right (list_all (λ y. nat_le (key x) (key y)) xs) _ h) i j d (omega (arith, le)) (omega (arith, l))

-- ---- ranks

up_to : (a b : ℕ) → nat_le a b ≡ nat_lt a (suc b)
up_to a b = grind (arith, nat_tests)

-- an element behind those of its key stands at the rank of the next number
pub put-insert : {X : Type 0} (key : X → ℕ) (x : X) (xs : List X) → insert xs (rank key (suc (key x)) xs) x ≡ put_behind key x xs
put-insert key x [] = refl
put-insert key x (y ∷ ys) = by_test (put-insert key x ys) (nat_lt (key y) (suc (key x))) ∙ ap (λ b. cond b (y ∷ put_behind key x ys) (x ∷ y ∷ ys)) (sym (up_to (key y) (key x)))
  where
    by_test : insert ys (rank key (suc (key x)) ys) x ≡ put_behind key x ys → (b : Bool)
        → insert (y ∷ ys) (cond b (suc (rank key (suc (key x)) ys)) 0) x ≡ cond b (y ∷ put_behind key x ys) (x ∷ y ∷ ys)
    by_test ih true = ap (λ zs. y ∷ zs) ih
    by_test ih false = refl

-- where no key is the number, none is kept
pub none-keyed : {X : Type 0} (key : X → ℕ) (n : ℕ) (x : X) (xs : List X) → is_ordered_by key (x ∷ xs) ≡ true → nat_lt (key x) (suc n) ≡ false → filter (λ y. key y == n) xs ≡ []
none-keyed key n x [] h past = refl
none-keyed key n x (y ∷ ys) h past =
    ap (λ b. cond b (y ∷ filter (λ z. key z == n) ys) (filter (λ z. key z == n) ys)) (other (key x) (key y) n past first)
    ∙ none-keyed key n y ys (both-right (list_all (λ z. nat_le (key x) (key z)) (y ∷ ys)) _ h) (later (key x) (key y) n past first)
  where
    first : nat_le (key x) (key y) ≡ true
    first = both-left (nat_le (key x) (key y)) _ (both-left _ (is_ordered_by key (y ∷ ys)) h)

    other : (a b n : ℕ) → nat_lt a (suc n) ≡ false → nat_le a b ≡ true → b == n ≡ false
    other a b n h k = grind (arith, nat_tests)

    later : (a b n : ℕ) → nat_lt a (suc n) ≡ false → nat_le a b ≡ true → nat_lt b (suc n) ≡ false
    later a b n h k = grind (arith, nat_tests)

-- the elements of a key stand between its rank and that of the next number
pub rank-next : {X : Type 0} (key : X → ℕ) (n : ℕ) (xs : List X) → is_ordered_by key xs ≡ true → rank key n xs + length (filter (λ x. key x == n) xs) ≡ rank key (suc n) xs
rank-next key n [] h = omega arith
rank-next {X = X} key n (x ∷ xs) h =
    by_side (nat_lt (key x) n) (nat_lt (key x) (suc n)) (key x == n) refl refl refl (rank-next key n xs (both-right (list_all (λ y. nat_le (key x) (key y)) xs) _ h))
  where
    -- nothing of a lower key stands behind
    none_below : nat_lt (key x) n ≡ false → rank key n xs ≡ 0
    none_below t = first xs (both-left _ (is_ordered_by key xs) h)
      where
        first : (ys : List X) → list_all (λ y. nat_le (key x) (key y)) ys ≡ true → rank key n ys ≡ 0
        first [] g = refl
        first (y ∷ ys) g = ap (λ b. cond b (suc (rank key n ys)) 0) (not_below (key x) (key y) t (both-left _ _ g))
          where
            not_below : (a b : ℕ) → nat_lt a n ≡ false → nat_le a b ≡ true → nat_lt b n ≡ false
            not_below a b h k = grind (arith, nat_tests)

    by_side : (a b c : Bool) → nat_lt (key x) n ≡ a → nat_lt (key x) (suc n) ≡ b → key x == n ≡ c → rank key n xs + length (filter (λ y. key y == n) xs) ≡ rank key (suc n) xs
        → cond a (suc (rank key n xs)) 0 + length (cond c (x ∷ filter (λ y. key y == n) xs) (filter (λ y. key y == n) xs)) ≡ cond b (suc (rank key (suc n) xs)) 0
    by_side true true false e f g ih = omega (arith, ih)
    by_side true true true e f g ih = absurd (grind (arith, nat_tests))
    by_side true false c e f g ih = absurd (grind (arith, nat_tests))
    by_side false true true e f g ih = omega (arith, ih, none_below e)
    by_side false true false e f g ih = absurd (grind (arith, nat_tests))
    by_side false false false e f g ih = let none = ap length (none-keyed key n x xs h f) in omega (arith, none)
    by_side false false true e f g ih = absurd (grind (arith, nat_tests))

-- ---- places

pub place-within : {X : Type 0} (p : X → Bool) (xs : List X) → list_any p xs ≡ true → position_or_len p xs < length xs
place-within p [] h = absurd (not_both false h refl)
place-within p (x ∷ xs) h = by_test (place-within p xs) (p x) h
  where
    by_test : (list_any p xs ≡ true → position_or_len p xs < length xs) → (b : Bool) → b || list_any p xs ≡ true → cond (not b) (1 + position_or_len p xs) 0 < suc (length xs)
    by_test ih true h = omega arith
    by_test ih false h = omega (arith, ih h)

pub place-some : {X : Type 0} (p : X → Bool) (xs : List X) → list_any p xs ≡ true → position p xs ≡ Some (position_or_len p xs)
place-some p xs h = ap (λ b. cond b (Some (position_or_len p xs)) None) (below (position_or_len p xs) (length xs) (place-within p xs h))
  where
    below : (a b : ℕ) → a < b → nat_lt a b ≡ true
    below a b h = grind (arith, nat_tests)

pub place-none : {X : Type 0} (p : X → Bool) (xs : List X) → is_some (find p xs) ≡ false → position p xs ≡ None
place-none p xs h = ap (λ b. cond b (Some (position_or_len p xs)) None) (past (position_or_len p xs) (length xs) (length_none xs h))
  where
    past : (a b : ℕ) → a ≡ b → nat_lt a b ≡ false
    past a b h = grind (arith, nat_tests)

    length_none : (ys : List _) → is_some (find p ys) ≡ false → position_or_len p ys ≡ length ys
    length_none [] h = refl
    length_none (y ∷ ys) h = by_test (length_none ys) (p y) h
      where
        by_test : (is_some (find p ys) ≡ false → position_or_len p ys ≡ length ys) → (b : Bool) → is_some (cond b (Some y) (find p ys)) ≡ false → cond (not b) (1 + position_or_len p ys) 0 ≡ suc (length ys)
        by_test ih true h = absurd (not_both true refl h)
        by_test ih false h = omega (arith, ih h)

-- ---- the one that passes

pub none-filter : {X : Type 0} (p : X → Bool) (xs : List X) → length (filter p xs) ≡ 0 → filter (λ x. not (p x)) xs ≡ xs
none-filter p [] h = refl
none-filter p (x ∷ xs) h = by_test (none-filter p xs) (p x) h
  where
    by_test : (length (filter p xs) ≡ 0 → filter (λ x. not (p x)) xs ≡ xs) → (b : Bool) → length (cond b (x ∷ filter p xs) (filter p xs)) ≡ 0
        → cond (not b) (x ∷ filter (λ x. not (p x)) xs) (filter (λ x. not (p x)) xs) ≡ x ∷ xs
    by_test ih true h = absurd (omega (arith, h))
    by_test ih false h = ap (λ ys. x ∷ ys) (ih h)

-- where one passes, what is left without it is what doesn't pass
pub remove-one : {X : Type 0} (p : X → Bool) (xs : List X) → length (filter p xs) ≡ 1 → take (position_or_len p xs) xs ++ drop (suc (position_or_len p xs)) xs ≡ filter (λ x. not (p x)) xs
remove-one p [] h = absurd (omega (arith, h))
remove-one p (x ∷ xs) h = by_test (remove-one p xs) (p x) h
  where
    by_test : (length (filter p xs) ≡ 1 → take (position_or_len p xs) xs ++ drop (suc (position_or_len p xs)) xs ≡ filter (λ x. not (p x)) xs)
        → (b : Bool) → length (cond b (x ∷ filter p xs) (filter p xs)) ≡ 1
        → take (cond (not b) (1 + position_or_len p xs) 0) (x ∷ xs) ++ drop (suc (cond (not b) (1 + position_or_len p xs) 0)) (x ∷ xs)
        ≡ cond (not b) (x ∷ filter (λ x. not (p x)) xs) (filter (λ x. not (p x)) xs)
    by_test ih true h = sym (none-filter p xs (omega (arith, h)))
    by_test ih false h = ap (λ k. take k (x ∷ xs) ++ drop (suc k) (x ∷ xs)) (next (position_or_len p xs)) ∙ ap (λ ys. x ∷ ys) (ih h)
      where
        next : (n : ℕ) → 1 + n ≡ suc n
        next n = omega arith

-- what stands at the first place that passes is what a look-up finds
pub read-one : {X : Type 0} (p : X → Bool) (xs : List X) (k : ℕ) (x : X) → list_any p xs ≡ true → k ≡ position_or_len p xs → x ≡ get_or xs k x → Some x ≡ find p xs
read-one p xs k x some at is =
    let within : k < length xs = omega (arith, at, place-within p xs some) in
    sym (find_at p xs ∙ ap (slice_get xs) (sym at) ∙ slice_get_read xs (length xs) k x refl within is)

-- and it may be put back where it stood
pub put-one-back : {X : Type 0} (p : X → Bool) (xs : List X) (x : X) → length (filter p xs) ≡ 1 → Some x ≡ find p xs → insert (filter (λ x. not (p x)) xs) (position_or_len p xs) x ≡ xs
put-one-back p [] x h e = absurd (omega (arith, h))
put-one-back p (y ∷ ys) x h e = by_test (put-one-back p ys x) (p y) h e
  where
    next : (n : ℕ) → 1 + n ≡ suc n
    next n = omega arith

    by_test : (length (filter p ys) ≡ 1 → Some x ≡ find p ys → insert (filter (λ x. not (p x)) ys) (position_or_len p ys) x ≡ ys)
        → (b : Bool) → length (cond b (y ∷ filter p ys) (filter p ys)) ≡ 1 → Some x ≡ cond b (Some y) (find p ys)
        → insert (cond (not b) (y ∷ filter (λ x. not (p x)) ys) (filter (λ x. not (p x)) ys)) (cond (not b) (1 + position_or_len p ys) 0) x ≡ y ∷ ys
    by_test ih true h e = λ i. some-is y x e i ∷ none-filter p ys (omega (arith, h)) i
    by_test ih false h e = ap (λ k. insert (y ∷ filter (λ x. not (p x)) ys) k x) (next (position_or_len p ys)) ∙ ap (λ zs. y ∷ zs) (ih h e)

-- its place is at most the number of the others
pub place-left : {X : Type 0} (p : X → Bool) (xs : List X) → length (filter p xs) ≡ 1 → position_or_len p xs ≤ length (filter (λ x. not (p x)) xs)
place-left p [] h = omega arith
place-left p (x ∷ xs) h = by_test (place-left p xs) (p x) h
  where
    by_test : (length (filter p xs) ≡ 1 → position_or_len p xs ≤ length (filter (λ x. not (p x)) xs)) → (b : Bool) → length (cond b (x ∷ filter p xs) (filter p xs)) ≡ 1
        → cond (not b) (1 + position_or_len p xs) 0 ≤ length (cond (not b) (x ∷ filter (λ x. not (p x)) xs) (filter (λ x. not (p x)) xs))
    by_test ih true h = omega arith
    by_test ih false h = omega (arith, ih h)

-- where one passes, some does
pub one-any : {X : Type 0} (p : X → Bool) (xs : List X) → length (filter p xs) ≡ 1 → list_any p xs ≡ true
one-any p [] h = absurd (omega (arith, h))
one-any p (x ∷ xs) h = by_test (one-any p xs) (p x) h
  where
    by_test : (length (filter p xs) ≡ 1 → list_any p xs ≡ true) → (b : Bool) → length (cond b (x ∷ filter p xs) (filter p xs)) ≡ 1 → b || list_any p xs ≡ true
    by_test ih true h = refl
    by_test ih false h = ih h
