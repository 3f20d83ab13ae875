-- What holds of a list holds of it in order.
use Rattle.std.specs.Prelude.{◌≡◌, ℕ, ◌+◌, Bool, true, false, not, ◌&&◌, ◌||◌, ◌==◌, nat_le, cond, List, [], ◌∷◌, ◌++◌, length, map, filter, flat_map, sum_by, refl}
use Rattle.std.specs.List.{list_all, list_any}
use Rattle.std.proofs.Common.{sym, ◌∙◌, ap, inl, inr, arith}
use Rattle.std.proofs.lemmas.Bool.Decides.{nat_tests}
use Rattle.std.proofs.lemmas.List.Concat.{length-flat_map}
use Rattle.std.proofs.lemmas.List.Sums.{sum_by-cons}
use Rattle.sect_model.proofs.DifferLemmas.{eqb-other}
use Rattle.sect_model.proofs.ListLemmas.{all-insert, all-sorted}
use Rattle.sect_model.proofs.Members.{Member, both, both-left, both-right, if_false, member-of_map, member-right, neither-left, neither-right, none-at, not_true}
use Rattle.sect_model.specs.World.{put_behind}
use Rattle.sect_people.specs.Order.{all_differ, insert_by, sorted_by}
use Rattle.sect_read.specs.Fits.{FitsList}

-- a test of what a list's elements give
pub any_mapped : {X Y : Type 0} (test : Y → Bool) (f : X → Y) (xs : List X) → list_any test (map f xs) ≡ list_any (λ x. test (f x)) xs
any_mapped test f [] = refl
any_mapped test f (x ∷ xs) = ap (λ b. test (f x) || b) (any_mapped test f xs)

-- where no key stands twice, neither those before an element nor those behind it have its key
pub apart_middle : {X : Type 0} (key : X → ℕ) (xs : List X) (x : X) (ys : List X) → all_differ (map key (xs ++ x ∷ ys)) ≡ true
    → (list_any (λ y. key y == key x) xs ≡ false) × (list_any (λ y. key y == key x) ys ≡ false)
apart_middle key [] x ys h = (
  refl,
  sym (any_mapped (λ m. m == key x) key ys)
      ∙ not_true (list_any (λ m. m == key x) (map key ys)) (both-left (not (list_any (λ m. m == key x) (map key ys))) (all_differ (map key ys)) h),
)
apart_middle {X = X} key (z ∷ zs) x ys h =
    let more = apart_middle key zs x ys (both-right (not (list_any (λ m. m == key z) (map key (zs ++ x ∷ ys)))) (all_differ (map key (zs ++ x ∷ ys))) h) in
    ((λ i. other i || more.0 i), more.1)
  where
    other : (key z == key x) ≡ false
    other =
        not_true (key z == key x) (eqb-other (key x) (key z) (if_false (key x == key z)
        (none-at (λ m. m == key z) (map key (zs ++ x ∷ ys)) (not_true (list_any (λ m. m == key z) (map key (zs ++ x ∷ ys)))
        (both-left (not (list_any (λ m. m == key z) (map key (zs ++ x ∷ ys)))) (all_differ (map key (zs ++ x ∷ ys))) h))
        (key x) (member-of_map key (zs ++ x ∷ ys) x (member-right zs (x ∷ ys) x (inl refl))))))

-- each two elements pass the test
abbrev pub each_two : {X : Type 0} → (X → X → Bool) → List X → Bool
each_two test [] = true
each_two test (x ∷ xs) = list_all (test x) xs && each_two test xs

module _ {X : Type 0} (key : X → ℕ) where
  each_insert : (P : X → Type 0) (x : X) (xs : List X) → P x → FitsList P xs → FitsList P (insert_by key x xs)
  each_insert P x [] one all = (one, tt)
  each_insert P x (y ∷ ys) one all = by (nat_le (key x) (key y)) (each_insert P x ys one all.1)
    where
      by : (b : Bool) → FitsList P (insert_by key x ys) → FitsList P (cond b (x ∷ y ∷ ys) (y ∷ insert_by key x ys))
      by true more = (one, all)
      by false more = (all.0, more)

  -- what holds of each
  pub each_sorted : (P : X → Type 0) (xs : List X) → FitsList P xs → FitsList P (sorted_by key xs)
  each_sorted P [] all = tt
  each_sorted P (x ∷ xs) all = each_insert P x (sorted_by key xs) all.0 (each_sorted P xs all.1)

  -- the elements that are looked for among those of a list with one more
  any_insert : (test : ℕ → Bool) (id : X → ℕ) (x : X) (xs : List X) → list_any test (map id (insert_by key x xs)) ≡ (test (id x) || list_any test (map id xs))
  any_insert test id x [] = refl
  any_insert test id x (y ∷ ys) = by (nat_le (key x) (key y)) (any_insert test id x ys)
    where
      turn : (a b c : Bool) → (b || (a || c)) ≡ (a || (b || c))
      turn true true c = refl
      turn true false c = refl
      turn false b c = refl

      by : (b : Bool) → list_any test (map id (insert_by key x ys)) ≡ (test (id x) || list_any test (map id ys))
          → list_any test (map id (cond b (x ∷ y ∷ ys) (y ∷ insert_by key x ys))) ≡ (test (id x) || (test (id y) || list_any test (map id ys)))
      by true more = refl
      by false more = ap (λ b. test (id y) || b) more ∙ turn (test (id x)) (test (id y)) (list_any test (map id ys))

  any_sorted : (test : ℕ → Bool) (id : X → ℕ) (xs : List X) → list_any test (map id (sorted_by key xs)) ≡ list_any test (map id xs)
  any_sorted test id [] = refl
  any_sorted test id (x ∷ xs) = any_insert test id x (sorted_by key xs) ∙ ap (λ b. test (id x) || b) (any_sorted test id xs)

  differ_insert : (id : X → ℕ) (x : X) (xs : List X) → not (list_any (λ m. m == id x) (map id xs)) ≡ true → all_differ (map id xs) ≡ true
      → all_differ (map id (insert_by key x xs)) ≡ true
  differ_insert id x [] new differ = refl
  differ_insert id x (y ∷ ys) new differ = by (nat_le (key x) (key y))
      (differ_insert id x ys (apart (id y == id x) (list_any (λ m. m == id x) (map id ys)) new).1
      (both-right (not (list_any (λ m. m == id y) (map id ys))) _ differ))
    where
      apart : (a b : Bool) → not (a || b) ≡ true → (not a ≡ true) × (not b ≡ true)
      apart true b h = absurd (cc)
      apart false b h = (refl, h)

      none : (a b : Bool) → not a ≡ true → not b ≡ true → not (a || b) ≡ true
      none true b h k = absurd (cc)
      none false b h k = k

      by : (b : Bool) → all_differ (map id (insert_by key x ys)) ≡ true → all_differ (map id (cond b (x ∷ y ∷ ys) (y ∷ insert_by key x ys))) ≡ true
      by true more = both (not (list_any (λ m. m == id x) (map id (y ∷ ys)))) (all_differ (map id (y ∷ ys))) new differ
      by false more =
          both (not (list_any (λ m. m == id y) (map id (insert_by key x ys)))) (all_differ (map id (insert_by key x ys)))
          (ap not (any_insert (λ m. m == id y) id x ys)
          ∙ none (id x == id y) (list_any (λ m. m == id y) (map id ys))
          (eqb-other (id y) (id x) (apart (id y == id x) (list_any (λ m. m == id x) (map id ys)) new).0)
          (both-left (not (list_any (λ m. m == id y) (map id ys))) _ differ))
          more

  -- that no number stands twice
  pub differ_sorted : (id : X → ℕ) (xs : List X) → all_differ (map id xs) ≡ true → all_differ (map id (sorted_by key xs)) ≡ true
  differ_sorted id [] differ = refl
  differ_sorted id (x ∷ xs) differ =
      differ_insert id x (sorted_by key xs) (ap not (any_sorted (λ m. m == id x) id xs) ∙ both-left (not (list_any (λ m. m == id x) (map id xs))) _ differ)
      (differ_sorted id xs (both-right (not (list_any (λ m. m == id x) (map id xs))) _ differ))

  -- ---- elements and counts

  member_insert : (x : X) (xs : List X) (z : X) → Member (x ∷ xs) z → Member (insert_by key x xs) z
  member_insert x [] z m = m
  member_insert x (y ∷ ys) z m = by (nat_le (key x) (key y)) (member_insert x ys z) m
    where
      by : (b : Bool) → (Member (x ∷ ys) z → Member (insert_by key x ys) z) → Member (x ∷ y ∷ ys) z → Member (cond b (x ∷ y ∷ ys) (y ∷ insert_by key x ys)) z
      by true more its = its
      by false more (inl e) = inr (more (inl e))
      by false more (inr (inl e)) = inl e
      by false more (inr (inr its)) = inr (more (inr its))

  -- each element stands in the list in order
  pub member_sorted : (xs : List X) (z : X) → Member xs z → Member (sorted_by key xs) z
  member_sorted [] z m = m
  member_sorted (x ∷ xs) z (inl e) = member_insert x (sorted_by key xs) z (inl e)
  member_sorted (x ∷ xs) z (inr m) = member_insert x (sorted_by key xs) z (inr (member_sorted xs z m))

  sum_insert : (f : X → ℕ) (x : X) (xs : List X) → sum_by f (insert_by key x xs) ≡ f x + sum_by f xs
  sum_insert f x [] = sum_by-cons f x []
  sum_insert f x (y ∷ ys) = by (nat_le (key x) (key y)) (sum_insert f x ys)
    where
      by : (b : Bool) → sum_by f (insert_by key x ys) ≡ f x + sum_by f ys → sum_by f (cond b (x ∷ y ∷ ys) (y ∷ insert_by key x ys)) ≡ f x + sum_by f (y ∷ ys)
      by true more = sum_by-cons f x (y ∷ ys)
      by false more = omega (arith, more, sum_by-cons f y ys, sum_by-cons f y (insert_by key x ys))

  -- a sum over the elements
  sum_sorted : (f : X → ℕ) (xs : List X) → sum_by f (sorted_by key xs) ≡ sum_by f xs
  sum_sorted f [] = refl
  sum_sorted f (x ∷ xs) = sum_insert f x (sorted_by key xs) ∙ ap (λ n. f x + n) (sum_sorted f xs) ∙ sym (sum_by-cons f x xs)

  -- how many parts they have
  pub parts_sorted : {Y : Type 0} (f : X → List Y) (xs : List X) → length (flat_map f (sorted_by key xs)) ≡ length (flat_map f xs)
  parts_sorted f xs = length-flat_map f (sorted_by key xs) ∙ sum_sorted (λ x. length (f x)) xs ∙ sym (length-flat_map f xs)

  counted : (test : X → Bool) (xs : List X) → length (filter test xs) ≡ sum_by (λ x. cond (test x) 1 0) xs
  counted test [] = refl
  counted test (x ∷ xs) = by (test x) (counted test xs) ∙ sym (sum_by-cons (λ y. cond (test y) 1 0) x xs)
    where
      by : (b : Bool) → length (filter test xs) ≡ sum_by (λ y. cond (test y) 1 0) xs
          → length (cond b (x ∷ filter test xs) (filter test xs)) ≡ cond b 1 0 + sum_by (λ y. cond (test y) 1 0) xs
      by true more = omega (arith, more)
      by false more = omega (arith, more)

  -- how many pass a test
  pub count_sorted : (test : X → Bool) (xs : List X) → length (filter test (sorted_by key xs)) ≡ length (filter test xs)
  count_sorted test xs = counted test (sorted_by key xs) ∙ sum_sorted (λ x. cond (test x) 1 0) xs ∙ sym (counted test xs)

  -- ---- what holds of each two

  two_insert : (test : X → X → Bool) → ((x y : X) → test x y ≡ true → test y x ≡ true) → (x : X) (xs : List X) → list_all (test x) xs ≡ true
      → each_two test xs ≡ true → each_two test (insert_by key x xs) ≡ true
  two_insert test turn x [] one all = refl
  two_insert test turn x (y ∷ ys) one all =
      by (nat_le (key x) (key y)) (two_insert test turn x ys (both-right (test x y) (list_all (test x) ys) one)
      (both-right (list_all (test y) ys) (each_two test ys) all))
    where
      by : (b : Bool) → each_two test (insert_by key x ys) ≡ true → each_two test (cond b (x ∷ y ∷ ys) (y ∷ insert_by key x ys)) ≡ true
      by true more = both (list_all (test x) (y ∷ ys)) (each_two test (y ∷ ys)) one all
      by false more =
          both (list_all (test y) (insert_by key x ys)) (each_two test (insert_by key x ys))
          (all-insert key (test y) x ys
          ∙ both (test y x) (list_all (test y) ys) (turn x y (both-left (test x y) (list_all (test x) ys) one))
          (both-left (list_all (test y) ys) (each_two test ys) all)) more

  -- a test of each two that may be turned
  pub two_sorted : (test : X → X → Bool) → ((x y : X) → test x y ≡ true → test y x ≡ true) → (xs : List X) → each_two test xs ≡ true
      → each_two test (sorted_by key xs) ≡ true
  two_sorted test turn [] all = refl
  two_sorted test turn (x ∷ xs) all =
      two_insert test turn x (sorted_by key xs) (all-sorted key (test x) xs ∙ both-left (list_all (test x) xs) (each_two test xs) all)
      (two_sorted test turn xs (both-right (list_all (test x) xs) (each_two test xs) all))

  -- ---- an element that is put among them

  one_way : (a b : ℕ) → (a == b) ≡ false → nat_le b a ≡ not (nat_le a b)
  one_way a b h = grind (arith, nat_tests)

  lower : (a b c : ℕ) → nat_le a c ≡ false → nat_le b c ≡ true → nat_le a b ≡ false
  lower a b c h k = grind (arith, nat_tests)

  chosen : (a b : Bool) → b ≡ not a → (l r : List X) → cond a l r ≡ cond b r l
  chosen true b e l r = sym (ap (λ t. cond t r l) e)
  chosen false b e l r = sym (ap (λ t. cond t r l) e)

  -- two elements with other keys may be inserted in either order
  insert_swap : (x y : X) (zs : List X) → (key x == key y) ≡ false → insert_by key x (insert_by key y zs) ≡ insert_by key y (insert_by key x zs)
  insert_swap x y [] other = chosen (nat_le (key x) (key y)) (nat_le (key y) (key x)) (one_way (key x) (key y) other) (x ∷ y ∷ []) (y ∷ x ∷ [])
  insert_swap x y (z ∷ zs) other = by (nat_le (key x) (key z)) (nat_le (key y) (key z)) refl refl (insert_swap x y zs other)
    where
      by : (p q : Bool) → nat_le (key x) (key z) ≡ p → nat_le (key y) (key z) ≡ q
          → insert_by key x (insert_by key y zs) ≡ insert_by key y (insert_by key x zs)
          → insert_by key x (cond q (y ∷ z ∷ zs) (z ∷ insert_by key y zs)) ≡ insert_by key y (cond p (x ∷ z ∷ zs) (z ∷ insert_by key x zs))
      by true true a b more =
          (λ i. cond (nat_le (key x) (key y)) (x ∷ y ∷ z ∷ zs) (y ∷ cond (a i) (x ∷ z ∷ zs) (z ∷ insert_by key x zs)))
          ∙ chosen (nat_le (key x) (key y)) (nat_le (key y) (key x)) (one_way (key x) (key y) other) (x ∷ y ∷ z ∷ zs) (y ∷ x ∷ z ∷ zs)
          ∙ sym (λ i. cond (nat_le (key y) (key x)) (y ∷ x ∷ z ∷ zs) (x ∷ cond (b i) (y ∷ z ∷ zs) (z ∷ insert_by key y zs)))
      by false true a b more =
          (λ i. cond (lower (key x) (key y) (key z) a b i) (x ∷ y ∷ z ∷ zs) (y ∷ cond (a i) (x ∷ z ∷ zs) (z ∷ insert_by key x zs)))
          ∙ sym (λ i. cond (b i) (y ∷ z ∷ insert_by key x zs) (z ∷ insert_by key y (insert_by key x zs)))
      by true false a b more =
          (λ i. cond (a i) (x ∷ z ∷ insert_by key y zs) (z ∷ insert_by key x (insert_by key y zs)))
          ∙ sym (λ i. cond (lower (key y) (key x) (key z) b a i) (y ∷ x ∷ z ∷ zs) (x ∷ cond (b i) (y ∷ z ∷ zs) (z ∷ insert_by key y zs)))
      by false false a b more =
          (λ i. cond (a i) (x ∷ z ∷ insert_by key y zs) (z ∷ insert_by key x (insert_by key y zs)))
          ∙ ap (λ l. z ∷ l) more
          ∙ sym (λ i. cond (b i) (y ∷ z ∷ insert_by key x zs) (z ∷ insert_by key y (insert_by key x zs)))

  -- an element with a new key, wherever it was put
  pub put_sorted : (by : X → ℕ) (x : X) (xs : List X) → list_any (λ y. key y == key x) xs ≡ false
      → sorted_by key (put_behind by x xs) ≡ insert_by key x (sorted_by key xs)
  put_sorted by x [] new = refl
  put_sorted by x (y ∷ ys) new = at (nat_le (by y) (by x)) (put_sorted by x ys (neither-right (key y == key x) (list_any (λ z. key z == key x) ys) new))
    where
      at : (b : Bool) → sorted_by key (put_behind by x ys) ≡ insert_by key x (sorted_by key ys)
          → sorted_by key (cond b (y ∷ put_behind by x ys) (x ∷ y ∷ ys)) ≡ insert_by key x (insert_by key y (sorted_by key ys))
      at true more = ap (insert_by key y) more ∙ insert_swap y x (sorted_by key ys) (neither-left (key y == key x) (list_any (λ z. key z == key x) ys) new)
      at false more = refl

  put_last : (x : X) (xs : List X) → put_behind (λ y. 0) x xs ≡ xs ++ x ∷ []
  put_last x [] = refl
  put_last x (y ∷ ys) = ap (λ l. y ∷ l) (put_last x ys)

  -- one behind the others
  pub last_sorted : (x : X) (xs : List X) → list_any (λ y. key y == key x) xs ≡ false → sorted_by key (xs ++ x ∷ []) ≡ insert_by key x (sorted_by key xs)
  last_sorted x xs new = ap (sorted_by key) (sym (put_last x xs)) ∙ put_sorted (λ y. 0) x xs new
