-- What searches in lists in order find.
use Rattle.std.specs.Prelude.{◌≡◌, ◌≢◌, ℕ, suc, ◌≤◌, ◌<◌, Bool, true, false, ◌==◌, nat_lt, nat_le, cond, List, [], ◌∷◌, length, filter, find, position, slice_get, Option, Some, None, refl}
use Rattle.std.specs.Bool.{then_some}
use Rattle.std.specs.List.{list_any, list_all, position_or_len, HoldsAt}
use Rattle.std.specs.Option.{is_some, option_map, option_and_then, MatchOption}
use Rattle.std.proofs.Common.{Bor, option_copied, sym, ◌∙◌, ap, arith, ⊎_elim}
use Rattle.std.proofs.lemmas.Bool.{eq-eqb}
use Rattle.std.proofs.lemmas.Bool.Decides.{nat_tests}
use Rattle.std.proofs.lemmas.List.Folds.{find_at}
use Rattle.std.proofs.lemmas.Option.{slice_get_past, slice_get_read}
use Rattle.sect_people.specs.Index.{rank}
use Rattle.sect_model.specs.Kept.{is_ordered_by}
use Rattle.sect_model.proofs.Members.{both-right, decide, not_both}
use Rattle.sect_model.proofs.ListLemmas.{any-find, some-is}
use Rattle.sect_roster.proofs.PlaceLemmas.{none-keyed, place-none, place-some}
use Rattle.sect_roster.proofs.InsertLemmas.{none-kept}

-- what a checked access of a slice answers
pub got : {X : Type 0} (o : Option (Bor X)) (xs : List X) (k : ℕ) → MatchOption o (length xs ≤ k) (λ x. (k < length xs) × HoldsAt (λ y. x.now ≡ y) xs k) → option_copied o ≡ slice_get xs k
got None xs k past = sym (slice_get_past xs k past)
got (Some x) xs k at = sym (slice_get_read xs (length xs) k x.now refl at.0 (at.1 x.now))

pub is_none : {X : Type 0} (o : Option X) → is_some o ≡ false → o ≡ None
is_none None h = refl
is_none (Some x) h = cc

-- what stands at the rank of a number is what a look-up finds, where it has the number
pub read-rank : {X : Type 0} (key : X → ℕ) (n : ℕ) (xs : List X) → is_ordered_by key xs ≡ true
    → find (λ x. key x == n) xs ≡ option_and_then (λ x. then_some (key x == n) x) (slice_get xs (rank key n xs))
read-rank key n [] h = refl
read-rank {X = X} key n (x ∷ xs) h =
    by_side (nat_lt (key x) n) (key x == n) refl refl (read-rank key n xs (both-right (list_all (λ y. nat_le (key x) (key y)) xs) _ h))
  where
    past : (a : ℕ) → nat_lt a n ≡ false → a == n ≡ false → nat_lt a (suc n) ≡ false
    past a t u = grind (arith, nat_tests)

    by_side : (a b : Bool) → nat_lt (key x) n ≡ a → key x == n ≡ b
        → find (λ y. key y == n) xs ≡ option_and_then (λ y. then_some (key y == n) y) (slice_get xs (rank key n xs))
        → cond b (Some x) (find (λ y. key y == n) xs) ≡ option_and_then (λ y. then_some (key y == n) y) (slice_get (x ∷ xs) (cond a (suc (rank key n xs)) 0))
    by_side true true t u ih = absurd (grind (arith, nat_tests))
    by_side true false t u ih = ih
    by_side false true t u ih = ap (λ b. then_some b x) (sym u)
    by_side false false t u ih =
        is_none (find (λ y. key y == n) xs) (none-kept (λ y. key y == n) xs (none-keyed key n x xs h (past (key x) t u))) ∙ ap (λ b. then_some b x) (sym u)

-- the three answers of such a search
module _ {X : Type 0} (key : X → ℕ) (n : ℕ) (xs : List X) (h : is_ordered_by key xs ≡ true) (k : ℕ) (at : k ≡ rank key n xs) where
  seen : (o : Option X) → o ≡ slice_get xs k → find (λ x. key x == n) xs ≡ option_and_then (λ x. then_some (key x == n) x) o
  seen o e = read-rank key n xs h ∙ ap (λ o. option_and_then (λ x. then_some (key x == n) x) o) (sym (e ∙ ap (slice_get xs) at))

  pub found-past : None ≡ slice_get xs k → find (λ x. key x == n) xs ≡ None
  found-past e = seen None e

  pub found-own : (x : X) → Some x ≡ slice_get xs k → key x ≡ n → find (λ x. key x == n) xs ≡ Some x
  found-own x e same = seen (Some x) e ∙ ap (λ b. then_some b x) (eq-eqb (key x) n same)

  pub found-other : (x : X) → Some x ≡ slice_get xs k → key x ≢ n → find (λ x. key x == n) xs ≡ None
  found-other x e other = seen (Some x) e ∙ ap (λ b. then_some b x) (unlike (key x) n other)
    where
      unlike : (a b : ℕ) → a ≢ b → a == b ≡ false
      unlike a b h = grind (arith, nat_tests)

-- a look-up reads at the place of the first that passes
pub find-position : {X : Type 0} (p : X → Bool) (xs : List X) → option_and_then (slice_get xs) (position p xs) ≡ find p xs
find-position p xs = ⊎_elim
    (λ t. ap (λ o. option_and_then (slice_get xs) o) (place-some p xs t) ∙ sym (find_at p xs))
    (λ f. let none = any-find p xs ∙ f in ap (λ o. option_and_then (slice_get xs) o) (place-none p xs none) ∙ sym (is_none (find p xs) none))
    (decide (list_any p xs))

pub map-known : {X : Type 0} (key : X → ℕ) (n : ℕ) (o : Option X) → option_map key o ≡ Some n → (x : X) × (o ≡ Some x) × (key x ≡ n)
map-known key n None e = cc
map-known key n (Some x) e = (x, refl, cc)

-- what a look-up finds is found among those that pass another test, if it passes that
pub find-among : {X : Type 0} (p q : X → Bool) (xs : List X) (r : X) → find p xs ≡ Some r → q r ≡ true → find p (filter q xs) ≡ Some r
find-among p q [] r e t = e
find-among p q (x ∷ xs) r e t = by_test (p x) (q x) refl refl e (λ g. find-among p q xs r g t)
  where
    by_test : (a b : Bool) → p x ≡ a → q x ≡ b → cond a (Some x) (find p xs) ≡ Some r → (find p xs ≡ Some r → find p (filter q xs) ≡ Some r) → find p (cond b (x ∷ filter q xs) (filter q xs)) ≡ Some r
    by_test true true f g e ih = ap (λ c. cond c (Some x) (find p (filter q xs))) f ∙ e
    by_test true false f g e ih = absurd (not_both (q x) (ap q (some-is r x e) ∙ t) g)
    by_test false true f g e ih = ap (λ c. cond c (Some x) (find p (filter q xs))) f ∙ ih e
    by_test false false f g e ih = ih e

-- a look-up that finds has a place
pub found-place : {X : Type 0} (p : X → Bool) (xs : List X) → is_some (find p xs) ≡ true → position p xs ≡ Some (position_or_len p xs)
found-place p xs h = place-some p xs (sym (any-find p xs) ∙ h)
