-- A list in order stays as it is when it is put in order.
use Rattle.std.specs.Prelude.{◌≡◌, ℕ, Bool, true, false, ◌&&◌, nat_le, cond, List, [], ◌∷◌, map, refl}
use Rattle.std.proofs.Common.{◌∙◌, ap, arith}
use Rattle.std.proofs.lemmas.Bool.Decides.{nat_tests}
use Rattle.sect_model.proofs.Members.{both, both-left, both-right}
use Rattle.sect_people.specs.Order.{insert_by, sorted_by}

-- the first of the list isn't below the number
abbrev pub begins_from : ℕ → List ℕ → Bool
begins_from n [] = true
begins_from n (m ∷ ms) = nat_le n m

-- each number is at most the next one
abbrev pub ascends : List ℕ → Bool
ascends [] = true
ascends (n ∷ ns) = begins_from n ns && ascends ns

other_order : (m n : ℕ) → nat_le m n ≡ false → nat_le n m ≡ true
other_order m n h = grind (arith, nat_tests)

module _ {X : Type 0} (key : X → ℕ) where
  begins_insert : (n : ℕ) (x : X) (xs : List X) → nat_le n (key x) ≡ true → begins_from n (map key xs) ≡ true → begins_from n (map key (insert_by key x xs)) ≡ true
  begins_insert n x [] low begins = low
  begins_insert n x (y ∷ ys) low begins = by (nat_le (key x) (key y))
    where
      by : (b : Bool) → begins_from n (map key (cond b (x ∷ y ∷ ys) (y ∷ insert_by key x ys))) ≡ true
      by true = low
      by false = begins

  ascends_insert : (x : X) (xs : List X) → ascends (map key xs) ≡ true → ascends (map key (insert_by key x xs)) ≡ true
  ascends_insert x [] ordered = refl
  ascends_insert x (y ∷ ys) ordered = by (nat_le (key x) (key y)) refl (ascends_insert x ys (both-right (begins_from (key y) (map key ys)) _ ordered))
    where
      by : (b : Bool) → nat_le (key x) (key y) ≡ b → ascends (map key (insert_by key x ys)) ≡ true → ascends (map key (cond b (x ∷ y ∷ ys) (y ∷ insert_by key x ys))) ≡ true
      by true e more = both (nat_le (key x) (key y)) (ascends (map key (y ∷ ys))) e ordered
      by false e more =
          both (begins_from (key y) (map key (insert_by key x ys))) (ascends (map key (insert_by key x ys)))
          (begins_insert (key y) x ys (other_order (key x) (key y) e) (both-left (begins_from (key y) (map key ys)) (ascends (map key ys)) ordered)) more

  -- a list that was put in order ascends
  pub ascends_sorted : (xs : List X) → ascends (map key (sorted_by key xs)) ≡ true
  ascends_sorted [] = refl
  ascends_sorted (x ∷ xs) = ascends_insert x (sorted_by key xs) (ascends_sorted xs)

  insert_first : (x : X) (xs : List X) → begins_from (key x) (map key xs) ≡ true → insert_by key x xs ≡ x ∷ xs
  insert_first x [] begins = refl
  insert_first x (y ∷ ys) begins = ap (λ b. cond b (x ∷ y ∷ ys) (y ∷ insert_by key x ys)) begins

  -- a list that ascends is in order
  pub sorted_stays : (xs : List X) → ascends (map key xs) ≡ true → sorted_by key xs ≡ xs
  sorted_stays [] ordered = refl
  sorted_stays (x ∷ xs) ordered =
      ap (insert_by key x) (sorted_stays xs (both-right (begins_from (key x) (map key xs)) _ ordered)) ∙ insert_first x xs (both-left (begins_from (key x) (map key xs)) (ascends (map key xs)) ordered)
