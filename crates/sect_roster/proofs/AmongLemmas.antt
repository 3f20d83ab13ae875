-- How many elements a number has, and one of them that is taken out of a list in order and put back.
use Rattle.std.specs.Prelude.{◌≡◌, ℕ, suc, ◌+◌, ◌≤◌, Bool, true, false, not, ◌==◌, nat_lt, nat_le, cond, List, [], ◌∷◌, length, filter, find, insert, map, Some, refl}
use Rattle.std.specs.List.{list_all, position_or_len}
use Rattle.std.specs.Option.{is_some}
use Rattle.std.proofs.Common.{sym, ◌∙◌, ap, arith}
use Rattle.std.proofs.lemmas.Bool.{eq-eqb}
use Rattle.std.proofs.lemmas.Bool.Decides.{nat_tests}
use Rattle.sect_people.specs.Index.{rank}
use Rattle.sect_model.specs.Kept.{is_ordered_by}
use Rattle.sect_model.specs.World.{put_behind}
use Rattle.sect_model.proofs.Members.{both-left, both-right}
use Rattle.sect_model.proofs.ListLemmas.{any-find, some-is}
use Rattle.sect_roster.specs.Slots.{rows_of, number_of, put_among}
use Rattle.sect_roster.proofs.FoundLemmas.{find-among}
use Rattle.sect_roster.proofs.InsertLemmas.{count-more, filter-insert}
use Rattle.sect_roster.proofs.PlaceLemmas.{place-within, put-insert, put-one-back, rank-next}

-- ---- how many

-- one more of its own number, and no more of others
pub number-insert : {X : Type 0} (key : X → ℕ) (n : ℕ) (xs : List X) (k : ℕ) (x : X) → number_of key n (insert xs k x) ≡ cond (key x == n) 1 0 + number_of key n xs
number-insert key n xs k x = by_test (key x == n) refl
  where
    by_test : (b : Bool) → key x == n ≡ b → number_of key n (insert xs k x) ≡ cond b 1 0 + number_of key n xs
    by_test true t = let more = count-more (λ y. key y == n) xs k x t in omega (arith, more)
    by_test false t = let same = ap length (filter-insert (λ y. key y == n) xs k x t) in omega (arith, same)

-- a change that keeps the numbers
pub number-map : {X : Type 0} (key : X → ℕ) (n : ℕ) (f : X → X) (xs : List X) → ((x : X) → key (f x) ≡ key x) → number_of key n (map f xs) ≡ number_of key n xs
number-map key n f [] same = refl
number-map key n f (x ∷ xs) same = ap (λ k. length (cond (k == n) (f x ∷ rows_of key n (map f xs)) (rows_of key n (map f xs)))) (same x) ∙ by_test (key x == n) (number-map key n f xs same)
  where
    by_test : (b : Bool) → number_of key n (map f xs) ≡ number_of key n xs → length (cond b (f x ∷ rows_of key n (map f xs)) (rows_of key n (map f xs))) ≡ length (cond b (x ∷ rows_of key n xs) (rows_of key n xs))
    by_test true ih = ap (λ m. suc m) ih
    by_test false ih = ih

-- those before the rank are of lower numbers
pub rank-within : {X : Type 0} (key : X → ℕ) (n : ℕ) (xs : List X) → rank key n xs + number_of key n xs ≤ length xs
rank-within key n [] = omega arith
rank-within {X = X} key n (x ∷ xs) = by_test (nat_lt (key x) n) (key x == n) refl refl (rank-within key n xs) (number-le xs)
  where
    number-le : (ys : List X) → number_of key n ys ≤ length ys
    number-le [] = omega arith
    number-le (y ∷ ys) = one (key y == n) (number-le ys)
      where
        one : (b : Bool) → number_of key n ys ≤ length ys → length (cond b (y ∷ rows_of key n ys) (rows_of key n ys)) ≤ suc (length ys)
        one true ih = omega (arith, ih)
        one false ih = omega (arith, ih)

    by_test : (a b : Bool) → nat_lt (key x) n ≡ a → key x == n ≡ b → rank key n xs + number_of key n xs ≤ length xs → number_of key n xs ≤ length xs
        → cond a (suc (rank key n xs)) 0 + length (cond b (x ∷ rows_of key n xs) (rows_of key n xs)) ≤ suc (length xs)
    by_test true true t u ih all = absurd (grind (arith, nat_tests))
    by_test true false t u ih all = omega (arith, ih)
    by_test false true t u ih all = omega (arith, all)
    by_test false false t u ih all = omega (arith, all)

-- one put behind all of its number is put behind
pub among-last : {X : Type 0} (key : X → ℕ) (place : ℕ) (x : X) (xs : List X) → is_ordered_by key xs ≡ true → place ≡ number_of key (key x) xs → put_among key place x xs ≡ put_behind key x xs
among-last key place x xs h last = ap (λ k. insert xs k x) (ap (λ k. rank key (key x) xs + k) last ∙ rank-next key (key x) xs h) ∙ put-insert key x xs

-- ---- the one that passes

module _ {X : Type 0} (key : X → ℕ) (p : X → Bool) (n : ℕ) where
  -- the place in the list is that among the number's own behind the rank, whether the one is there or gone
  place-own : (xs : List X) (x : X) → is_ordered_by key xs ≡ true → length (filter p xs) ≡ 1 → Some x ≡ find p xs → key x ≡ n
      → rank key n (filter (λ y. not (p y)) xs) + position_or_len p (rows_of key n xs) ≡ position_or_len p xs
  place-own [] x h one is mine = absurd (omega (arith, one))
  place-own (y ∷ ys) x h one is mine = by_test (p y) (key y == n) (nat_lt (key y) n) refl refl refl one is (λ g f. place-own ys x (both-right (list_all (λ z. nat_le (key y) (key z)) ys) _ h) g f mine)
    where
      first : list_all (λ z. nat_le (key y) (key z)) ys ≡ true
      first = both-left (list_all (λ z. nat_le (key y) (key z)) ys) _ h

      -- nothing behind one of the number, or of a higher one, is of a lower one
      none : (zs : List X) → list_all (λ z. nat_le (key y) (key z)) zs ≡ true → nat_lt (key y) n ≡ false → rank key n (filter (λ z. not (p z)) zs) ≡ 0
      none [] g t = refl
      none (z ∷ zs) g t = one-of (p z) (none zs (both-right (nat_le (key y) (key z)) _ g) t)
        where
          later : (a b : ℕ) → nat_lt a n ≡ false → nat_le a b ≡ true → nat_lt b n ≡ false
          later a b t k = grind (arith, nat_tests)

          one-of : (b : Bool) → rank key n (filter (λ z. not (p z)) zs) ≡ 0 → rank key n (cond (not b) (z ∷ filter (λ z. not (p z)) zs) (filter (λ z. not (p z)) zs)) ≡ 0
          one-of true ih = ih
          one-of false ih = ap (λ b. cond b (suc (rank key n (filter (λ z. not (p z)) zs))) 0) (later (key y) (key z) t (both-left (nat_le (key y) (key z)) _ g))

      not-below : (a : ℕ) → a ≡ n → nat_lt a n ≡ false
      not-below a h = grind (arith, nat_tests)

      next : (a b c : ℕ) → a + b ≡ c → suc a + b ≡ 1 + c
      next a b c e = omega (arith, e)

      skip : (a b c : ℕ) → a ≡ 0 → a + b ≡ c → 0 + (1 + b) ≡ 1 + c
      skip a b c z e = omega (arith, z, e)

      -- behind a higher number none is of the number
      gone : (zs : List X) → list_all (λ z. nat_le (key y) (key z)) zs ≡ true → key y == n ≡ false → nat_lt (key y) n ≡ false → Some x ≡ find p zs → ⊥
      gone [] g u v is = cc
      gone (z ∷ zs) g u v is = test (λ e. gone zs (both-right (nat_le (key y) (key z)) _ g) u v e) (p z) is
        where
          past : (a b : ℕ) → a == n ≡ false → nat_lt a n ≡ false → nat_le a b ≡ true → b ≡ n → ⊥
          past a b u v k e = grind (arith, nat_tests)

          test : (Some x ≡ find p zs → ⊥) → (b : Bool) → Some x ≡ cond b (Some z) (find p zs) → ⊥
          test ih true is = past (key y) (key z) u v (both-left (nat_le (key y) (key z)) _ g) (ap key (sym (some-is z x is)) ∙ mine)
          test ih false is = ih is

      by_test : (b own low : Bool) → p y ≡ b → key y == n ≡ own → nat_lt (key y) n ≡ low → length (cond b (y ∷ filter p ys) (filter p ys)) ≡ 1 → Some x ≡ cond b (Some y) (find p ys)
          → (length (filter p ys) ≡ 1 → Some x ≡ find p ys → rank key n (filter (λ z. not (p z)) ys) + position_or_len p (rows_of key n ys) ≡ position_or_len p ys)
          → rank key n (cond (not b) (y ∷ filter (λ z. not (p z)) ys) (filter (λ z. not (p z)) ys)) + position_or_len p (cond own (y ∷ rows_of key n ys) (rows_of key n ys))
          ≡ cond (not b) (1 + position_or_len p ys) 0
      -- y is the one that is looked for, so it is the first of its own
      by_test true own low t u v one is ih =
          let same : key y ≡ n = ap key (sym (some-is y x is)) ∙ mine in
          let mine : own ≡ true = sym u ∙ eq-eqb (key y) n same in
          (λ i. none ys first (not-below (key y) same) i + position_or_len p (cond (mine i) (y ∷ rows_of key n ys) (rows_of key n ys)))
          ∙ ap (λ b. 0 + cond (not b) (1 + position_or_len p (rows_of key n ys)) 0) t
      by_test false true true t u v one is ih = absurd (grind (arith, nat_tests))
      by_test false false true t u v one is ih =
          ap (λ b. cond b (suc (rank key n (filter (λ z. not (p z)) ys))) 0 + position_or_len p (rows_of key n ys)) v
          ∙ next (rank key n (filter (λ z. not (p z)) ys)) _ _ (ih one is)
      by_test false true false t u v one is ih =
          (λ i. cond (v i) (suc (rank key n (filter (λ z. not (p z)) ys))) 0 + cond (not (t i)) (1 + position_or_len p (rows_of key n ys)) 0) ∙ skip _ _ _ (none ys first v) (ih one is)
      by_test false false false t u v one is ih = absurd (gone ys first u v is)

  -- taken out, it may be put back where it stood among its own
  pub comes-back : (xs : List X) (x : X) → is_ordered_by key xs ≡ true → length (filter p xs) ≡ 1 → Some x ≡ find p xs → key x ≡ n
      → put_among key (position_or_len p (rows_of key n xs)) x (filter (λ y. not (p y)) xs) ≡ xs
  comes-back xs x h one is mine =
      let rest = filter (λ y. not (p y)) xs in
      ap (λ k. insert rest k x) (ap (λ m. rank key m rest + position_or_len p (rows_of key n xs)) mine ∙ place-own xs x h one is mine) ∙ put-one-back p xs x one is

-- without it, its number has one less
pub left-number : {X : Type 0} (key : X → ℕ) (p : X → Bool) (m : ℕ) (xs : List X) (x : X) → length (filter p xs) ≡ 1 → Some x ≡ find p xs
    → number_of key m xs ≡ cond (key x == m) 1 0 + number_of key m (filter (λ y. not (p y)) xs)
left-number key p m xs x one is = ap (number_of key m) (sym (put-one-back p xs x one is)) ∙ number-insert key m (filter (λ y. not (p y)) xs) (position_or_len p xs) x

-- and its place is at most the number of the others of its number
pub left-place : {X : Type 0} (key : X → ℕ) (p : X → Bool) (n : ℕ) (xs : List X) (x : X) → length (filter p xs) ≡ 1 → Some x ≡ find p xs → key x ≡ n
    → (number_of key n xs ≡ 1 + number_of key n (filter (λ y. not (p y)) xs)) × (position_or_len p (rows_of key n xs) ≤ number_of key n (filter (λ y. not (p y)) xs))
left-place key p n xs x one is mine =
    let own = eq-eqb (key x) n mine in
    let less = left-number key p n xs x one is ∙ ap (λ b. cond b 1 0 + number_of key n (filter (λ y. not (p y)) xs)) own in
    let among = find-among p (λ y. key y == n) xs x (sym is) own in
    let within = place-within p (rows_of key n xs) (sym (any-find p (rows_of key n xs)) ∙ ap is_some among) in
    (less, omega (arith, less, within))
