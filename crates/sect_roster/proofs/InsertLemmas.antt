-- An element at a place of a list, and what is left without one: ids, look-ups and tests.
use Rattle.std.specs.Prelude.{◌≡◌, ℕ, zero, suc, ◌+◌, Bool, true, false, not, ◌||◌, ◌==◌, nat_lt, nat_le, cond, List, [], ◌∷◌, length, map, filter, find, insert, Some, None, refl}
use Rattle.std.specs.List.{list_any, list_all, position_or_len}
use Rattle.std.specs.Option.{is_some}
use Rattle.std.proofs.Common.{sym, ◌∙◌, ap, subst, arith}
use Rattle.std.proofs.lemmas.Bool.{eqb-true}
use Rattle.std.proofs.lemmas.Bool.Decides.{nat_tests}
use Rattle.sect_people.specs.Order.{all_differ}
use Rattle.sect_people.specs.Index.{rank}
use Rattle.sect_model.specs.World.{put_behind}
use Rattle.sect_model.specs.Kept.{is_ordered_by}
use Rattle.sect_model.proofs.Members.{both, both-left, both-right, neither-left, neither-right, not_both, not_true}
use Rattle.sect_model.proofs.ListLemmas.{any-find}
use Rattle.sect_roster.proofs.PlaceLemmas.{put-insert, none-keyed, none-filter}

-- ---- ids

none-insert : {X : Type 0} (id : X → ℕ) (test : ℕ → Bool) (xs : List X) (k : ℕ) (x : X) → test (id x) ≡ false → list_any test (map id xs) ≡ false → list_any test (map id (insert xs k x)) ≡ false
none-insert id test [] zero x e h = λ i. e i || false
none-insert id test [] (suc k) x e h = λ i. e i || false
none-insert id test (y ∷ ys) zero x e h = (λ i. e i || list_any test (map id (y ∷ ys))) ∙ h
none-insert id test (y ∷ ys) (suc k) x e h =
    (λ i. neither-left (test (id y)) _ h i || list_any test (map id (insert ys k x))) ∙ none-insert id test ys k x e (neither-right (test (id y)) _ h)

turn : (a b : ℕ) → a == b ≡ false → b == a ≡ false
turn a b h = grind (arith, nat_tests)

-- ids that differ still do with a new one among them
pub differ-insert : {X : Type 0} (id : X → ℕ) (xs : List X) (k : ℕ) (x : X) → all_differ (map id xs) ≡ true → list_any (λ m. m == id x) (map id xs) ≡ false → all_differ (map id (insert xs k x)) ≡ true
differ-insert id [] zero x h new = refl
differ-insert id [] (suc k) x h new = refl
differ-insert id (y ∷ ys) zero x h new = both (not (list_any (λ m. m == id x) (map id (y ∷ ys)))) _ (ap not new) h
differ-insert id (y ∷ ys) (suc k) x h new =
    both (not (list_any (λ m. m == id y) (map id (insert ys k x)))) _
    (ap not (none-insert id (λ m. m == id y) ys k x (turn (id y) (id x) (neither-left (id y == id x) _ new)) (not_true _ (both-left _ _ h))))
    (differ-insert id ys k x (both-right (not (list_any (λ m. m == id y) (map id ys))) _ h) (neither-right (id y == id x) _ new))

-- a look-up that finds none tells that no id is the number
pub new-id : {X : Type 0} (id : X → ℕ) (n : ℕ) (xs : List X) → is_some (find (λ x. id x == n) xs) ≡ false → list_any (λ m. m == n) (map id xs) ≡ false
new-id id n xs h = any-map xs ∙ sym (any-find (λ x. id x == n) xs) ∙ h
  where
    any-map : (ys : List _) → list_any (λ m. m == n) (map id ys) ≡ list_any (λ x. id x == n) ys
    any-map [] = refl
    any-map (y ∷ ys) = ap (λ b. id y == n || b) (any-map ys)

-- ---- look-ups

pub find-insert : {X : Type 0} (p : X → Bool) (xs : List X) (k : ℕ) (x : X) → p x ≡ false → find p (insert xs k x) ≡ find p xs
find-insert p [] zero x e = ap (λ b. cond b (Some x) None) e
find-insert p [] (suc k) x e = ap (λ b. cond b (Some x) None) e
find-insert p (y ∷ ys) zero x e = ap (λ b. cond b (Some x) (find p (y ∷ ys))) e
find-insert p (y ∷ ys) (suc k) x e = ap (λ o. cond (p y) (Some y) o) (find-insert p ys k x e)

pub find-inserted : {X : Type 0} (p : X → Bool) (xs : List X) (k : ℕ) (x : X) → p x ≡ true → is_some (find p xs) ≡ false → find p (insert xs k x) ≡ Some x
find-inserted p [] zero x e h = ap (λ b. cond b (Some x) None) e
find-inserted p [] (suc k) x e h = ap (λ b. cond b (Some x) None) e
find-inserted p (y ∷ ys) zero x e h = ap (λ b. cond b (Some x) (find p (y ∷ ys))) e
find-inserted p (y ∷ ys) (suc k) x e h = by_test (λ g. find-inserted p ys k x e g) (p y) h
  where
    by_test : (is_some (find p ys) ≡ false → find p (insert ys k x) ≡ Some x) → (b : Bool) → is_some (cond b (Some y) (find p ys)) ≡ false → cond b (Some y) (find p (insert ys k x)) ≡ Some x
    by_test ih true h = absurd (not_both true refl h)
    by_test ih false h = ih h

pub find-put-own : {X : Type 0} (key : X → ℕ) (p : X → Bool) (x : X) (xs : List X) → p x ≡ true → is_some (find p xs) ≡ false → find p (put_behind key x xs) ≡ Some x
find-put-own key p x xs e h = ap (find p) (sym (put-insert key x xs)) ∙ find-inserted p xs (rank key (suc (key x)) xs) x e h

-- what was filtered out isn't found
pub find-dropped : {X : Type 0} (p : X → Bool) (xs : List X) → find p (filter (λ x. not (p x)) xs) ≡ None
find-dropped p [] = refl
find-dropped p (x ∷ xs) = by_test (p x) refl (find-dropped p xs)
  where
    by_test : (b : Bool) → p x ≡ b → find p (filter (λ x. not (p x)) xs) ≡ None → find p (cond (not b) (x ∷ filter (λ x. not (p x)) xs) (filter (λ x. not (p x)) xs)) ≡ None
    by_test true e ih = ih
    by_test false e ih = ap (λ b. cond b (Some x) (find p (filter (λ x. not (p x)) xs))) e ∙ ih

-- ---- how many pass

pub none-found : {X : Type 0} (p : X → Bool) (xs : List X) → is_some (find p xs) ≡ false → length (filter p xs) ≡ 0
none-found p [] h = refl
none-found p (x ∷ xs) h = by_test (none-found p xs) (p x) h
  where
    by_test : (is_some (find p xs) ≡ false → length (filter p xs) ≡ 0) → (b : Bool) → is_some (cond b (Some x) (find p xs)) ≡ false → length (cond b (x ∷ filter p xs) (filter p xs)) ≡ 0
    by_test ih true h = absurd (not_both true refl h)
    by_test ih false h = ih h

-- where ids differ, one has the id that is found
pub once : {X : Type 0} (id : X → ℕ) (n : ℕ) (xs : List X) → all_differ (map id xs) ≡ true → is_some (find (λ x. id x == n) xs) ≡ true → length (filter (λ x. id x == n) xs) ≡ 1
once id n [] h f = absurd (not_both false f refl)
once {X = X} id n (x ∷ xs) h f = by_test (λ g. once id n xs (both-right (not (list_any (λ m. m == id x) (map id xs))) _ h) g) (id x == n) refl f
  where
    none : (ys : List X) → list_any (λ m. m == n) (map id ys) ≡ false → length (filter (λ x. id x == n) ys) ≡ 0
    none [] g = refl
    none (y ∷ ys) g = ap (λ b. length (cond b (y ∷ filter (λ x. id x == n) ys) (filter (λ x. id x == n) ys))) (neither-left (id y == n) _ g) ∙ none ys (neither-right (id y == n) _ g)

    by_test : (is_some (find (λ x. id x == n) xs) ≡ true → length (filter (λ x. id x == n) xs) ≡ 1) → (b : Bool) → id x == n ≡ b → is_some (cond b (Some x) (find (λ x. id x == n) xs)) ≡ true
        → length (cond b (x ∷ filter (λ x. id x == n) xs) (filter (λ x. id x == n) xs)) ≡ 1
    by_test ih true e f =
        let g = none xs (subst (λ k. list_any (λ m. m == k) (map id xs) ≡ false) (eqb-true (id x) n e) (not_true _ (both-left _ _ h))) in omega (arith, g)
    by_test ih false e f = ih f

pub none-kept : {X : Type 0} (p : X → Bool) (xs : List X) → filter p xs ≡ [] → is_some (find p xs) ≡ false
none-kept p [] h = refl
none-kept p (x ∷ xs) h = by_test (none-kept p xs) (p x) h
  where
    by_test : (filter p xs ≡ [] → is_some (find p xs) ≡ false) → (b : Bool) → cond b (x ∷ filter p xs) (filter p xs) ≡ [] → is_some (cond b (Some x) (find p xs)) ≡ false
    by_test ih true h = absurd (omega (arith, ap (λ ys. length ys) h))
    by_test ih false h = ih h

-- a number that is found stands at its rank
pub rank-place : {X : Type 0} (key : X → ℕ) (n : ℕ) (xs : List X) → is_ordered_by key xs ≡ true → is_some (find (λ x. key x == n) xs) ≡ true → rank key n xs ≡ position_or_len (λ x. key x == n) xs
rank-place key n [] h f = refl
rank-place {X = X} key n (x ∷ xs) h f =
    by_side (nat_lt (key x) n) (key x == n) refl refl f (λ g. rank-place key n xs (both-right (list_all (λ y. nat_le (key x) (key y)) xs) _ h) g)
  where
    by_side : (a b : Bool) → nat_lt (key x) n ≡ a → key x == n ≡ b → is_some (cond b (Some x) (find (λ y. key y == n) xs)) ≡ true
        → (is_some (find (λ y. key y == n) xs) ≡ true → rank key n xs ≡ position_or_len (λ y. key y == n) xs)
        → cond a (suc (rank key n xs)) 0 ≡ cond (not b) (1 + position_or_len (λ y. key y == n) xs) 0
    by_side true true t u f ih = absurd (grind (arith, nat_tests))
    by_side true false t u f ih = let g = ih f in omega (arith, g)
    by_side false true t u f ih = refl
    by_side false false t u f ih = absurd (not_both _ f (none-kept (λ y. key y == n) xs (none-keyed key n x xs h (past (key x) t u))))
      where
        past : (a : ℕ) → nat_lt a n ≡ false → a == n ≡ false → nat_lt a (suc n) ≡ false
        past a t u = grind (arith, nat_tests)

-- ---- one taken out

-- one more passes, where the one that was put there does
pub count-more : {X : Type 0} (p : X → Bool) (xs : List X) (k : ℕ) (x : X) → p x ≡ true → length (filter p (insert xs k x)) ≡ suc (length (filter p xs))
count-more p [] zero x mine = ap (λ b. length (cond b (x ∷ []) [])) mine
count-more p [] (suc k) x mine = ap (λ b. length (cond b (x ∷ []) [])) mine
count-more p (y ∷ ys) zero x mine = ap (λ b. length (cond b (x ∷ filter p (y ∷ ys)) (filter p (y ∷ ys)))) mine
count-more p (y ∷ ys) (suc k) x mine = by_test (p y) (count-more p ys k x mine)
  where
    by_test : (b : Bool) → length (filter p (insert ys k x)) ≡ suc (length (filter p ys)) → length (cond b (y ∷ filter p (insert ys k x)) (filter p (insert ys k x))) ≡ suc (length (cond b (y ∷ filter p ys) (filter p ys)))
    by_test true ih = ap (λ n. suc n) ih
    by_test false ih = ih

-- no more pass, where the one that was put there doesn't
pub filter-insert : {X : Type 0} (p : X → Bool) (xs : List X) (k : ℕ) (x : X) → p x ≡ false → filter p (insert xs k x) ≡ filter p xs
filter-insert p [] zero x other = ap (λ b. cond b (x ∷ []) []) other
filter-insert p [] (suc k) x other = ap (λ b. cond b (x ∷ []) []) other
filter-insert p (y ∷ ys) zero x other = ap (λ b. cond b (x ∷ filter p (y ∷ ys)) (filter p (y ∷ ys))) other
filter-insert {X = X} p (y ∷ ys) (suc k) x other = ap (λ (zs : List X). cond (p y) (y ∷ zs) zs) (filter-insert p ys k x other)

-- what is left where the one that passes was taken out
pub left-of : {X : Type 0} (p : X → Bool) (old new : List X) (k : ℕ) (x : X) → old ≡ insert new k x → p x ≡ true → length (filter p old) ≡ 1 → new ≡ filter (λ y. not (p y)) old
left-of p old new k x is mine one =
    sym (none-filter p new (none (sym (ap (λ ys. length (filter p ys)) is) ∙ one))) ∙ sym (filter-insert (λ y. not (p y)) new k x (ap not mine)) ∙ ap (filter (λ y. not (p y))) (sym is)
  where
    none : length (filter p (insert new k x)) ≡ 1 → length (filter p new) ≡ 0
    none one = let m = count-more p new k x mine in omega (arith, m, one)
