-- Lists in which no two elements have one key.
use Rattle.std.specs.Prelude.{◌≡◌, ℕ, suc, nat_lt, Bool, true, false, not, ◌&&◌, ◌||◌, ◌==◌, cond, List, [], ◌∷◌, ◌++◌, length, filter, find, flat_map, Some, refl}
use Rattle.std.specs.List.{list_any, list_all}
use Rattle.std.specs.Option.{option_map_or}
use Rattle.std.proofs.Common.{sym, ◌∙◌, ap, arith}
use Rattle.std.proofs.lemmas.Bool.{eqb-true, eq-eqb}
use Rattle.std.proofs.lemmas.Bool.Decides.{nat_tests}
use Rattle.sect_model.proofs.CoverLemmas.{not_both, both-left, both-right, not_true}
use Rattle.sect_model.proofs.TurnLemmas.{any-append, all-not, all-both, both, not-or}
use Rattle.sect_model.proofs.ListLemmas.{all-weaker}

-- no two elements have one key
abbrev pub keys_differ : {X : Type 0} → (X → ℕ) → List X → Bool
keys_differ key [] = true
keys_differ key (x ∷ xs) = not (list_any (λ y. key x == key y) xs) && keys_differ key xs

pub eqb-swap : (a b : ℕ) → a == b ≡ true → b == a ≡ true
eqb-swap a b h = eq-eqb b a (sym (eqb-true a b h))

-- two tests that all pass
pub all-two : {X : Type 0} (f g : X → Bool) (xs : List X) → list_all f xs ≡ true → list_all g xs ≡ true → list_all (λ x. f x && g x) xs ≡ true
all-two f g xs h k = all-both f g xs ∙ both (list_all f xs) (list_all g xs) h k

-- where keys differ, each element is found by its key
pub find-own : {X : Type 0} (key : X → ℕ) (q : X → X → Bool) → ((x : X) → q x x ≡ true) → (xs : List X) → keys_differ key xs ≡ true
    → list_all (λ x. option_map_or (λ y. q y x) (find (λ y. key y == key x) xs) false) xs ≡ true
find-own key q own [] h = refl
find-own {X = X} key q own (x ∷ xs) h =
    both (option_map_or (λ y. q y x) (cond (key x == key x) (Some x) (find (λ y. key y == key x) xs)) false)
    (list_all (λ z. option_map_or (λ y. q y z) (cond (key x == key z) (Some x) (find (λ y. key y == key z) xs)) false) xs)
    (ap (λ b. option_map_or (λ y. q y x) (cond b (Some x) (find (λ y. key y == key x) xs)) false) (eq-eqb (key x) (key x) refl) ∙ own x)
    (all-weaker (λ z. not (key x == key z) && option_map_or (λ y. q y z) (find (λ y. key y == key z) xs) false)
    (λ z. option_map_or (λ y. q y z) (cond (key x == key z) (Some x) (find (λ y. key y == key z) xs)) false)
    (λ z k. past (key x == key z) (option_map_or (λ y. q y z) (find (λ y. key y == key z) xs) false) z k) xs
    (all-two (λ z. not (key x == key z)) (λ z. option_map_or (λ y. q y z) (find (λ y. key y == key z) xs) false) xs
    (all-not (λ z. key x == key z) xs ∙ both-left (not (list_any (λ y. key x == key y) xs)) (keys_differ key xs) h)
    (find-own key q own xs (both-right (not (list_any (λ y. key x == key y) xs)) (keys_differ key xs) h)))) where
      past : (b rest : Bool) (z : X) → not b && option_map_or (λ y. q y z) (find (λ y. key y == key z) xs) false ≡ true
          → option_map_or (λ y. q y z) (cond b (Some x) (find (λ y. key y == key z) xs)) false ≡ true
      past true rest z k = absurd (not_both false k refl)
      past false rest z k = k

-- keys that differ in two lists together
pub differ-left : {X : Type 0} (key : X → ℕ) (xs ys : List X) → keys_differ key (xs ++ ys) ≡ true → keys_differ key xs ≡ true
differ-left key [] ys h = refl
differ-left key (x ∷ xs) ys h =
    both (not (list_any (λ y. key x == key y) xs)) (keys_differ key xs)
    (both-left (not (list_any (λ y. key x == key y) xs)) (not (list_any (λ y. key x == key y) ys))
    (sym (not-or (list_any (λ y. key x == key y) xs) (list_any (λ y. key x == key y) ys)) ∙ ap not (sym (any-append (λ y. key x == key y) xs ys))
    ∙ both-left (not (list_any (λ y. key x == key y) (xs ++ ys))) (keys_differ key (xs ++ ys)) h))
    (differ-left key xs ys (both-right (not (list_any (λ y. key x == key y) (xs ++ ys))) (keys_differ key (xs ++ ys)) h))

pub differ-right : {X : Type 0} (key : X → ℕ) (xs ys : List X) → keys_differ key (xs ++ ys) ≡ true → keys_differ key ys ≡ true
differ-right key [] ys h = h
differ-right key (x ∷ xs) ys h = differ-right key xs ys (both-right (not (list_any (λ y. key x == key y) (xs ++ ys))) (keys_differ key (xs ++ ys)) h)

pub differ-across : {X : Type 0} (key : X → ℕ) (xs ys : List X) → keys_differ key (xs ++ ys) ≡ true → list_all (λ y. not (list_any (λ x. key x == key y) xs)) ys ≡ true
differ-across key [] ys h = all-weaker (λ y. true) (λ y. true) (λ y k. k) ys (trivially ys) where
  trivially : {X : Type 0} (ys : List X) → list_all (λ y. true) ys ≡ true
  trivially [] = refl
  trivially (y ∷ ys) = trivially ys
differ-across key (x ∷ xs) ys h =
    all-weaker (λ y. not (key x == key y) && not (list_any (λ x. key x == key y) xs)) (λ y. not (key x == key y || list_any (λ x. key x == key y) xs))
    (λ y k. not-or (key x == key y) (list_any (λ x. key x == key y) xs) ∙ k) ys
    (all-two (λ y. not (key x == key y)) (λ y. not (list_any (λ x. key x == key y) xs)) ys
    (all-not (λ y. key x == key y) ys
    ∙ both-right (not (list_any (λ y. key x == key y) xs)) (not (list_any (λ y. key x == key y) ys))
    (sym (not-or (list_any (λ y. key x == key y) xs) (list_any (λ y. key x == key y) ys)) ∙ ap not (sym (any-append (λ y. key x == key y) xs ys))
    ∙ both-left (not (list_any (λ y. key x == key y) (xs ++ ys))) (keys_differ key (xs ++ ys)) h))
    (differ-across key xs ys (both-right (not (list_any (λ y. key x == key y) (xs ++ ys))) (keys_differ key (xs ++ ys)) h)))

pub differ-each : {X Y : Type 0} (key : Y → ℕ) (f : X → List Y) (xs : List X) → keys_differ key (flat_map f xs) ≡ true → list_all (λ x. keys_differ key (f x)) xs ≡ true
differ-each key f [] h = refl
differ-each key f (x ∷ xs) h =
    both (keys_differ key (f x)) (list_all (λ x. keys_differ key (f x)) xs) (differ-left key (f x) (flat_map f xs) h)
    (differ-each key f xs (differ-right key (f x) (flat_map f xs) h))

pub none-kept : {X : Type 0} (t : X → Bool) (xs : List X) → nat_lt 1 (suc (length (filter t xs))) ≡ false → not (list_any t xs) ≡ true
none-kept t [] h = refl
none-kept t (x ∷ xs) h = by_test (none-kept t xs) (t x) h where
  by_test : (nat_lt 1 (suc (length (filter t xs))) ≡ false → not (list_any t xs) ≡ true) → (b : Bool)
      → nat_lt 1 (suc (length (cond b (x ∷ filter t xs) (filter t xs)))) ≡ false → not (b || list_any t xs) ≡ true
  by_test rest true h = absurd (not_both (nat_lt 1 (suc (suc (length (filter t xs))))) (many (length (filter t xs))) h) where
    many : (n : ℕ) → nat_lt 1 (suc (suc n)) ≡ true
    many n = grind (arith, nat_tests)
  by_test rest false h = rest h

-- where no key stands twice, keys differ
pub single-differ : {X : Type 0} (key : X → ℕ) (xs : List X) → list_all (λ x. not (nat_lt 1 (length (filter (λ y. key x == key y) xs)))) xs ≡ true → keys_differ key xs ≡ true
single-differ key [] h = refl
single-differ {X = X} key (x ∷ xs) h =
    both (not (list_any (λ y. key x == key y) xs)) (keys_differ key xs)
    (none-kept (λ y. key x == key y) xs
    (ap (λ b. nat_lt 1 (length (cond b (x ∷ filter (λ y. key x == key y) xs) (filter (λ y. key x == key y) xs)))) (sym (eq-eqb (key x) (key x) refl))
    ∙ not_true (nat_lt 1 (length (filter (λ y. key x == key y) (x ∷ xs)))) (both-left (not (nat_lt 1 (length (filter (λ y. key x == key y) (x ∷ xs))))) (list_all (λ z. not (nat_lt 1 (length (filter (λ y. key z == key y) (x ∷ xs))))) xs) h)))
    (single-differ key xs
    (all-weaker (λ z. not (nat_lt 1 (length (filter (λ y. key z == key y) (x ∷ xs))))) (λ z. not (nat_lt 1 (length (filter (λ y. key z == key y) xs)))) (λ z k. fewer (key z == key x) z k) xs
    (both-right (not (nat_lt 1 (length (filter (λ y. key x == key y) (x ∷ xs))))) (list_all (λ z. not (nat_lt 1 (length (filter (λ y. key z == key y) (x ∷ xs))))) xs) h))) where
      smaller : (n : ℕ) → not (nat_lt 1 (suc n)) ≡ true → not (nat_lt 1 n) ≡ true
      smaller n k = grind (arith, nat_tests, k)

      fewer : (b : Bool) (z : X) → not (nat_lt 1 (length (cond b (x ∷ filter (λ y. key z == key y) xs) (filter (λ y. key z == key y) xs)))) ≡ true → not (nat_lt 1 (length (filter (λ y. key z == key y) xs))) ≡ true
      fewer true z k = smaller (length (filter (λ y. key z == key y) xs)) k
      fewer false z k = k

pub eqb-other : (a b : ℕ) → not (a == b) ≡ true → not (b == a) ≡ true
eqb-other a b h = by_test (b == a) refl where
  by_test : (c : Bool) → b == a ≡ c → not c ≡ true
  by_test true e = absurd (not_both (not (a == b)) h (ap not (eqb-swap b a e)))
  by_test false e = refl

-- two lists whose keys differ, and in which no key of the one is in the other
pub differ-join : {X : Type 0} (key : X → ℕ) (xs ys : List X) → keys_differ key xs ≡ true → keys_differ key ys ≡ true
    → list_all (λ y. not (list_any (λ x. key y == key x) xs)) ys ≡ true → keys_differ key (xs ++ ys) ≡ true
differ-join key [] ys h k across = k
differ-join key (x ∷ xs) ys h k across =
    both (not (list_any (λ y. key x == key y) (xs ++ ys))) (keys_differ key (xs ++ ys))
    (ap not (any-append (λ y. key x == key y) xs ys) ∙ not-or (list_any (λ y. key x == key y) xs) (list_any (λ y. key x == key y) ys)
    ∙ both (not (list_any (λ y. key x == key y) xs)) (not (list_any (λ y. key x == key y) ys))
    (both-left (not (list_any (λ y. key x == key y) xs)) (keys_differ key xs) h)
    (sym (all-not (λ y. key x == key y) ys)
    ∙ all-weaker (λ y. not (key y == key x || list_any (λ x. key y == key x) xs)) (λ y. not (key x == key y))
    (λ y j. eqb-other (key y) (key x) (both-left (not (key y == key x)) (not (list_any (λ x. key y == key x) xs)) (sym (not-or (key y == key x) (list_any (λ x. key y == key x) xs)) ∙ j))) ys across))
    (differ-join key xs ys (both-right (not (list_any (λ y. key x == key y) xs)) (keys_differ key xs) h) k
    (all-weaker (λ y. not (key y == key x || list_any (λ x. key y == key x) xs)) (λ y. not (list_any (λ x. key y == key x) xs))
    (λ y j. both-right (not (key y == key x)) (not (list_any (λ x. key y == key x) xs)) (sym (not-or (key y == key x) (list_any (λ x. key y == key x) xs)) ∙ j)) ys across))
