-- Reservations taken one after another hold back what they hold back together.
use Rattle.std.specs.Prelude.{◌≡◌, ℕ, ◌+◌, ◌-◌, ◌≤◌, pos, ◌-ℤ◌, int_le, Bool, true, false, not, ◌&&◌, ◌||◌, ◌==◌, nat_le, cond, List, [], ◌∷◌, filter, sum_by, Option, Some, None, refl}
use Rattle.std.specs.List.{list_all}
use Rattle.std.specs.Option.{option_map, option_map_or, is_none}
use Rattle.std.proofs.Common.{sym, ◌∙◌, ap, arith, zero, suc, ◌<◌, length, drop, get_or, drop-cons}
use Rattle.std.proofs.lemmas.Bool.{eqb-true}
use Rattle.std.proofs.lemmas.Bool.Decides.{nat_tests}
use Rattle.std.proofs.lemmas.Int.{ints}
use Rattle.std.proofs.lemmas.List.Sums.{sum_by-cons}
use Rattle.sect_catalog.specs.Catalogue.{places}
use Rattle.sect_reserve.specs.Audience.{active}
use Rattle.sect_model.specs.Data.{OfferingId, Level, Reservation}
use Rattle.sect_model.specs.World.{World}
use Rattle.sect_model.specs.Counts.{count_of, used_of}
use Rattle.sect_model.specs.Space.{names, active_at, remaining, has_unlimited, space_of}
use Rattle.sect_model.specs.Allowed.{reservations_of}
use Rattle.sect_model.proofs.Members.{not_both, both, both-left, both-right}
use Rattle.sect_moment.specs.Reserved.{reserves, held_back, takes_all, are_own}

none-left : (left : ℕ) → left == 0 ≡ nat_le left 0
none-left left = grind (arith, nat_tests)

less-zero : (left : ℕ) → left - 0 ≡ left
less-zero left = omega arith

or-assoc : (a b c : Bool) → a || (b || c) ≡ (a || b) || c
or-assoc true b c = refl
or-assoc false b c = refl

taken-le : (left m s : ℕ) → nat_le (left - m) s ≡ nat_le left (m + s)
taken-le left m s = grind (arith, nat_tests)

takes-together : (w : World) (level : Level) (left : ℕ) (rs : List Reservation)
    → takes_all w level left rs ≡ has_unlimited (filter (reserves w level) rs) || nat_le left (sum_by (remaining w) (filter (reserves w level) rs))
takes-together w level left [] = none-left left
takes-together w level left (r ∷ rs) = by_test (reserves w level r) (places r.limit) refl (λ m. takes-together w level m rs)
  where
    rest : List Reservation
    rest = filter (reserves w level) rs

    by_test : (b : Bool) (p : Option ℕ) → places r.limit ≡ p → ((m : ℕ) → takes_all w level m rs ≡ has_unlimited rest || nat_le m (sum_by (remaining w) rest))
        → option_map_or (λ n. takes_all w level (left - n) rs) (cond b (option_map (λ limit. limit - used_of w r.id) p) (Some 0)) true
        ≡ has_unlimited (cond b (r ∷ rest) rest) || nat_le left (sum_by (remaining w) (cond b (r ∷ rest) rest))
    by_test false p e ih = ih (left - 0) ∙ (λ i. has_unlimited rest || nat_le (less-zero left i) (sum_by (remaining w) rest))
    by_test true None e ih = λ i. (is_none (sym e i) || has_unlimited rest) || nat_le left (sum_by (remaining w) (r ∷ rest))
    by_test true (Some n) e ih =
        ih (left - (n - used_of w r.id))
        ∙ (λ i. has_unlimited rest || taken-le left (n - used_of w r.id) (sum_by (remaining w) rest) i)
        ∙ (λ i. (is_none (sym e i) || has_unlimited rest) || nat_le left (option_map_or (λ limit. limit - used_of w r.id) (sym e i) 0 + sum_by (remaining w) rest))
        ∙ (λ i. (is_none (places r.limit) || has_unlimited rest) || nat_le left (sym (sum_by-cons (remaining w) r rest) i))

-- the space is none where it is unlimited, or the reservations take what isn't counted
no-space : (u : Bool) (limit count s : ℕ) → int_le (cond u (pos 0) (pos limit -ℤ pos (count + s))) (pos 0) ≡ u || nat_le (limit - count) s
no-space true limit count s = refl
no-space false limit count s = grind (arith, nat_tests, ints)

-- a part that holds what passes leaves out nothing that passes
filter-part : {X : Type 0} (p q : X → Bool) (xs : List X) → list_all (λ x. not (p x) || q x) xs ≡ true → filter p (filter q xs) ≡ filter p xs
filter-part p q [] h = refl
filter-part {X = X} p q (x ∷ xs) h = by_test (p x) (q x) refl (both-left (not (p x) || q x) _ h) (filter-part p q xs (both-right (not (p x) || q x) _ h))
  where
    by_test : (a b : Bool) → p x ≡ a → not a || b ≡ true → filter p (filter q xs) ≡ filter p xs → filter p (cond b (x ∷ filter q xs) (filter q xs)) ≡ cond a (x ∷ filter p xs) (filter p xs)
    by_test true true e k ih = (λ i. cond (e i) (x ∷ filter p (filter q xs)) (filter p (filter q xs))) ∙ ap (λ ys. x ∷ ys) ih
    by_test true false e k ih = absurd (not_both false k refl)
    by_test false true e k ih = (λ i. cond (e i) (x ∷ filter p (filter q xs)) (filter p (filter q xs))) ∙ ih
    by_test false false e k ih = ih

-- the reservations that name a level of an offering are among the offering's
own-active : (w : World) (offering : OfferingId) (level : Level) → are_own w offering level ≡ true → filter (reserves w level) (reservations_of w offering) ≡ active_at w level
own-active w offering level own = filter-part (reserves w level) (λ r. r.offering.0 == offering.0) w.reservations (weaker w.reservations own)
  where
    less : (a n o : Bool) → not n || o ≡ true → not (a && n) || o ≡ true
    less true n o h = h
    less false n o h = refl

    weaker : (rs : List Reservation) → list_all (λ r. not (names r level) || r.offering.0 == offering.0) rs ≡ true → list_all (λ r. not (reserves w level r) || r.offering.0 == offering.0) rs ≡ true
    weaker [] h = refl
    weaker (r ∷ rs) h =
        both (not (reserves w level r) || r.offering.0 == offering.0) (list_all (λ r. not (reserves w level r) || r.offering.0 == offering.0) rs)
        (less (active r w.day) (names r level) (r.offering.0 == offering.0) (both-left (not (names r level) || r.offering.0 == offering.0) _ h))
        (weaker rs (both-right (not (names r level) || r.offering.0 == offering.0) _ h))

pub space-taken : (w : World) (offering : OfferingId) (level : Level) (limit : ℕ) → are_own w offering level ≡ true
    → takes_all w level (limit - count_of w level) (reservations_of w offering) ≡ int_le (space_of w level limit) (pos 0)
space-taken w offering level limit own =
    takes-together w level (limit - count_of w level) (reservations_of w offering)
    ∙ (λ i. has_unlimited (own-active w offering level own i) || nat_le (limit - count_of w level) (sum_by (remaining w) (own-active w offering level own i)))
    ∙ sym (no-space (has_unlimited (active_at w level)) limit (count_of w level) (sum_by (remaining w) (active_at w level)))

-- one after another, from a place on
pub taken-all : (w : World) (level : Level) (left : ℕ) (rs : List Reservation) (i : ℕ) (r : Reservation) → i < length rs → r ≡ get_or rs i r → None ≡ held_back w level r
    → takes_all w level left (drop i rs) ≡ true
taken-all w level left rs i r h e n =
    ap (takes_all w level left) (drop-cons rs i r h) ∙ (λ j. option_map_or (λ n. takes_all w level (left - n) (drop (suc i) rs)) ((ap (held_back w level) (sym e) ∙ sym n) j) true)

pub taken-end : (w : World) (level : Level) (left : ℕ) (rs : List Reservation) (i : ℕ) → length rs ≤ i → takes_all w level left (drop i rs) ≡ left == 0
taken-end w level left rs i h = ap (takes_all w level left) (drop-past rs i h)
  where
    drop-past : (rs : List Reservation) (i : ℕ) → length rs ≤ i → drop i rs ≡ []
    drop-past [] zero h = refl
    drop-past [] (suc i) h = refl
    drop-past (r ∷ rs) zero h = absurd (omega (arith, h))
    drop-past (r ∷ rs) (suc i) h = drop-past rs i (omega (arith, h))

-- no reservations take all of nothing alone
pub taken-none : (w : World) (level : Level) (left : ℕ) (rs : List Reservation) → (length rs == 0) ≡ true → left == 0 ≡ takes_all w level left rs
taken-none w level left [] e = refl
taken-none w level left (r ∷ rs) e = let z : length (r ∷ rs) ≡ 0 = eqb-true (length (r ∷ rs)) 0 e in absurd (omega (arith, z))

-- a reservation names its own offering alone
pub own-offering : (rs : List Reservation) (id : OfferingId) → list_all (λ r. not (r.offering.0 == id.0) || r.offering.0 == id.0) rs ≡ true
own-offering [] id = refl
own-offering (r ∷ rs) id = λ i. either_way (r.offering.0 == id.0) i && own-offering rs id i
  where
    either_way : (b : Bool) → not b || b ≡ true
    either_way true = refl
    either_way false = refl
