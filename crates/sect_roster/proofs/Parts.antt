-- The elements of a number between those of lower and those of higher numbers.
use Rattle.std.specs.Prelude.{◌≡◌, ℕ, suc, ◌+◌, ◌-◌, ◌≤◌, Bool, true, false, not, ◌==◌, nat_lt, nat_le, cond, List, [], ◌∷◌, ◌++◌, length, filter, insert, refl}
use Rattle.std.specs.List.{list_all}
use Rattle.std.proofs.Common.{sym, ◌∙◌, ap, arith, append_assoc}
use Rattle.std.proofs.lemmas.Bool.Decides.{nat_tests}
use Rattle.std.proofs.lemmas.List.{append-nil}
use Rattle.std.proofs.lemmas.List.Elements.{filter-append}
use Rattle.std.proofs.lemmas.List.Edits.{insert-append_left, insert-append_right}
use Rattle.sect_people.specs.Index.{rank}
use Rattle.sect_model.specs.World.{put_behind}
use Rattle.sect_model.proofs.Members.{both-left, both-right, not_true}
use Rattle.sect_model.proofs.ListLemmas.{all-weaker}
use Rattle.sect_roster.specs.Slots.{rows_of, put_among, is_of}

-- ---- lists

pub all-kept : {X : Type 0} (p : X → Bool) (xs : List X) → list_all p xs ≡ true → filter p xs ≡ xs
all-kept p [] h = refl
all-kept p (x ∷ xs) h = ap (λ b. cond b (x ∷ filter p xs) (filter p xs)) (both-left (p x) _ h) ∙ ap (λ ys. x ∷ ys) (all-kept p xs (both-right (p x) _ h))

pub none-kept : {X : Type 0} (p : X → Bool) (xs : List X) → list_all (λ x. not (p x)) xs ≡ true → filter p xs ≡ []
none-kept p [] h = refl
none-kept p (x ∷ xs) h = ap (λ b. cond b (x ∷ filter p xs) (filter p xs)) (not_true (p x) (both-left (not (p x)) _ h)) ∙ none-kept p xs (both-right (not (p x)) _ h)

-- ---- tests

abbrev pub below : {X : Type 0} → (X → ℕ) → ℕ → X → Bool
below key n x = nat_lt (key x) n

abbrev pub above : {X : Type 0} → (X → ℕ) → ℕ → X → Bool
above key n x = nat_lt n (key x)

lower : (a n : ℕ) → nat_lt a n ≡ true → not (a == n) ≡ true
lower a n h = ap not (by a n h)
  where
    by : (a n : ℕ) → nat_lt a n ≡ true → a == n ≡ false
    by a n h = grind (arith, nat_tests)

higher : (a n : ℕ) → nat_lt n a ≡ true → not (a == n) ≡ true
higher a n h = ap not (by a n h)
  where
    by : (a n : ℕ) → nat_lt n a ≡ true → a == n ≡ false
    by a n h = grind (arith, nat_tests)

-- ---- the three parts

module _ {X : Type 0} (key : X → ℕ) (n : ℕ) (front own back : List X) (low : list_all (below key n) front ≡ true) (mine : list_all (is_of key n) own ≡ true) (high : list_all (above key n) back ≡ true) where
  front-others : list_all (λ x. not (is_of key n x)) front ≡ true
  front-others = all-weaker (below key n) (λ x. not (is_of key n x)) (λ x h. lower (key x) n h) front low

  back-others : list_all (λ x. not (is_of key n x)) back ≡ true
  back-others = all-weaker (above key n) (λ x. not (is_of key n x)) (λ x h. higher (key x) n h) back high

  -- the number's own are the part in the middle
  pub own-part : rows_of key n (front ++ (own ++ back)) ≡ own
  own-part =
      filter-append (is_of key n) front (own ++ back)
      ∙ (λ i. none-kept (is_of key n) front front-others i ++ filter-append (is_of key n) own back i)
      ∙ (λ i. all-kept (is_of key n) own mine i ++ none-kept (is_of key n) back back-others i)
      ∙ append-nil own

  -- one more stands behind the own
  pub put-part : (e : X) → key e ≡ n → put_behind key e (front ++ (own ++ back)) ≡ front ++ ((own ++ e ∷ []) ++ back)
  put-part e is =
      past front (own ++ back) (all-weaker (below key n) (λ x. nat_le (key x) (key e)) (λ x h. up-to (key x) h) front low)
      ∙ ap (λ (rest : List X). front ++ rest) (past own back (all-weaker (is_of key n) (λ x. nat_le (key x) (key e)) (λ x h. same (key x) h) own mine)
      ∙ ap (λ (rest : List X). own ++ rest) (before back high)
      ∙ sym (append_assoc own (e ∷ []) back))
    where
      up-to : (a : ℕ) → nat_lt a n ≡ true → nat_le a (key e) ≡ true
      up-to a h = by a (key e) n h is
        where
          by : (a b n : ℕ) → nat_lt a n ≡ true → b ≡ n → nat_le a b ≡ true
          by a b n h e = grind (arith, nat_tests)

      same : (a : ℕ) → a == n ≡ true → nat_le a (key e) ≡ true
      same a h = by a (key e) n h is
        where
          by : (a b n : ℕ) → a == n ≡ true → b ≡ n → nat_le a b ≡ true
          by a b n h e = grind (arith, nat_tests)

      past : (xs rest : List X) → list_all (λ x. nat_le (key x) (key e)) xs ≡ true → put_behind key e (xs ++ rest) ≡ xs ++ put_behind key e rest
      past [] rest h = refl
      past (x ∷ xs) rest h =
          ap (λ b. cond b (x ∷ put_behind key e (xs ++ rest)) (e ∷ x ∷ (xs ++ rest))) (both-left (nat_le (key x) (key e)) _ h)
          ∙ ap (λ ys. x ∷ ys) (past xs rest (both-right (nat_le (key x) (key e)) _ h))

      before : (xs : List X) → list_all (above key n) xs ≡ true → put_behind key e xs ≡ e ∷ xs
      before [] h = refl
      before (x ∷ xs) h = ap (λ b. cond b (x ∷ put_behind key e xs) (e ∷ x ∷ xs)) (by (key x) (key e) n (both-left (above key n x) _ h) is)
        where
          by : (a b n : ℕ) → nat_lt n a ≡ true → b ≡ n → nat_le a b ≡ false
          by a b n h e = grind (arith, nat_tests)

  -- the own begin behind those of lower numbers
  pub rank-part : rank key n (front ++ (own ++ back)) ≡ length front
  rank-part = past front low ∙ zero-more (length front) _ (first own mine)
    where
      zero-more : (a b : ℕ) → b ≡ 0 → a + b ≡ a
      zero-more a b e = omega (arith, e)

      past : (xs : List X) → list_all (below key n) xs ≡ true → rank key n (xs ++ (own ++ back)) ≡ length xs + rank key n (own ++ back)
      past [] h = omega arith
      past (x ∷ xs) h = ap (λ b. cond b (suc (rank key n (xs ++ (own ++ back)))) 0) (both-left (below key n x) _ h) ∙ next _ _ _ (past xs (both-right (below key n x) _ h))
        where
          next : (a b c : ℕ) → a ≡ b + c → suc a ≡ suc b + c
          next a b c e = omega (arith, e)

      last : (xs : List X) → list_all (above key n) xs ≡ true → rank key n xs ≡ 0
      last [] h = refl
      last (x ∷ xs) h = ap (λ b. cond b (suc (rank key n xs)) 0) (by (key x) (both-left (above key n x) _ h))
        where
          by : (a : ℕ) → nat_lt n a ≡ true → nat_lt a n ≡ false
          by a h = grind (arith, nat_tests)

      first : (xs : List X) → list_all (is_of key n) xs ≡ true → rank key n (xs ++ back) ≡ 0
      first [] h = last back high
      first (x ∷ xs) h = ap (λ b. cond b (suc (rank key n (xs ++ back))) 0) (by (key x) (both-left (is_of key n x) _ h))
        where
          by : (a : ℕ) → a == n ≡ true → nat_lt a n ≡ false
          by a h = grind (arith, nat_tests)

  -- one more at a place among the own
  pub among-part : (place : ℕ) (e : X) → key e ≡ n → place ≤ length own → put_among key place e (front ++ (own ++ back)) ≡ front ++ (insert own place e ++ back)
  among-part place e is within =
      let at : rank key (key e) (front ++ (own ++ back)) ≡ length front = ap (λ m. rank key m (front ++ (own ++ back))) is ∙ rank-part in
      ap (λ k. insert (front ++ (own ++ back)) (k + place) e) at
      ∙ insert-append_right front (own ++ back) (length front) (length front + place) e refl (omega arith)
      ∙ ap (λ k. front ++ insert (own ++ back) k e) (rest (length front) place)
      ∙ ap (λ (more : List X). front ++ more) (insert-append_left own back place e within)
    where
      rest : (a b : ℕ) → (a + b) - a ≡ b
      rest a b = omega arith
