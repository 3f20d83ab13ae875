-- Options by their places.
use Rattle.std.specs.Prelude.{◌≡◌, ℕ, zero, suc, ◌+◌, ◌-◌, ◌<◌, ◌≤◌, Bool, true, false, not, nat_le, cond, List, [], ◌∷◌, ◌++◌, length, map, filter, count_by, Some, None, slice_get, refl}
use Rattle.std.proofs.Common.{sym, ◌∙◌, ap, arith}
use Rattle.std.proofs.lemmas.List.{length-append}
use Rattle.std.proofs.lemmas.List.Filters.{length-filter_both}
use Rattle.std.proofs.lemmas.List.Sums.{length-filter}
use Rattle.std.proofs.lemmas.Option.{slice_get_past}
use Rattle.sect_people.specs.Order.{insert_by, sorted_by}
use Rattle.sect_model.specs.Data.{Reservation}
use Rattle.sect_model.specs.declared.pick.Pick.{Pick}
use Rattle.sect_model.specs.declared.pick.Pick.TheVariants.{Reservation as by_reservation}
use Rattle.sect_model.specs.Path.{reservation_options}
use Rattle.sect_rules.specs.Part.{is_of_part}

-- a place in the first of two lists, and one behind it
get-left : {X : Type 0} (xs ys : List X) (i : ℕ) → i < length xs → slice_get (xs ++ ys) i ≡ slice_get xs i
get-left [] ys i h = absurd (omega (arith, h))
get-left (x ∷ xs) ys zero h = refl
get-left (x ∷ xs) ys (suc i) h = get-left xs ys i (omega (arith, h))

get-right : {X : Type 0} (xs ys : List X) (i j : ℕ) → i ≡ length xs + j → slice_get (xs ++ ys) i ≡ slice_get ys j
get-right [] ys i j e = let same : i ≡ j = omega (arith, e) in ap (slice_get ys) same
get-right (x ∷ xs) ys zero j e = absurd (omega (arith, e))
get-right (x ∷ xs) ys (suc i) j e = get-right xs ys i j (omega (arith, e))

length-map : {X Y : Type 0} (f : X → Y) (xs : List X) → length (map f xs) ≡ length xs
length-map f [] = refl
length-map f (x ∷ xs) = ap (λ n. suc n) (length-map f xs)

length-insert : {X : Type 0} (key : X → ℕ) (x : X) (xs : List X) → length (insert_by key x xs) ≡ suc (length xs)
length-insert key x [] = refl
length-insert {X = X} key x (y ∷ ys) = by_test (nat_le (key x) (key y)) (length-insert key x ys)
  where
    by_test : (b : Bool) → length (insert_by key x ys) ≡ suc (length ys) → length (cond b (x ∷ y ∷ ys) (y ∷ insert_by key x ys)) ≡ suc (suc (length ys))
    by_test true ih = refl
    by_test false ih = ap (λ n. suc n) ih

length-sorted : {X : Type 0} (key : X → ℕ) (xs : List X) → length (sorted_by key xs) ≡ length xs
length-sorted key [] = refl
length-sorted key (x ∷ xs) = length-insert key x (sorted_by key xs) ∙ ap (λ n. suc n) (length-sorted key xs)

-- the options for the obligatory reservations, or for the others
abbrev part : Bool → List Reservation → List Pick
part must rs = map (λ r. by_reservation (Some r.id)) (sorted_by (λ r. r.id.0) (filter (is_of_part must) rs))

length-part : (must : Bool) (rs : List Reservation) → length (part must rs) ≡ count_by (is_of_part must) rs
length-part must rs =
    length-map (λ r. by_reservation (Some r.id)) (sorted_by (λ r. r.id.0) (filter (is_of_part must) rs))
    ∙ length-sorted (λ r. r.id.0) (filter (is_of_part must) rs) ∙ length-filter (is_of_part must) rs

parts-whole : (rs : List Reservation) → length (part true rs) + length (part false rs) ≡ length rs
parts-whole rs =
    let m : length (part true rs) ≡ length (filter (is_of_part true) rs) = length-part true rs ∙ sym (length-filter (is_of_part true) rs) in
    let o : length (part false rs) ≡ length (filter (is_of_part false) rs) = length-part false rs ∙ sym (length-filter (is_of_part false) rs) in
    (λ i. m i + o i) ∙ length-filter_both (λ r. r.must) (λ r. not r.must) (λ r. refl) rs

abbrev all_parts : List Reservation → List Pick
all_parts rs = part true rs ++ part false rs

length-parts : (rs : List Reservation) → length (all_parts rs) ≡ length rs
length-parts rs = length-append (part true rs) (part false rs) ∙ parts-whole rs

pub must-option : (rs : List Reservation) (i : ℕ) → i < count_by (is_of_part true) rs → slice_get (part true rs) i ≡ slice_get (reservation_options rs) i
must-option rs i h =
    let in_part : i < length (part true rs) = omega (arith, h, length-part true rs) in
    let in_all : i < length (all_parts rs) = omega (arith, in_part, length-append (part true rs) (part false rs)) in
    sym (get-left (part true rs) (part false rs) i in_part) ∙ sym (get-left (all_parts rs) (by_reservation None ∷ []) i in_all)

pub other-option : (rs : List Reservation) (i m : ℕ) → m ≡ count_by (is_of_part true) rs → m ≤ i → i < length rs
    → slice_get (part false rs) (i - m) ≡ slice_get (reservation_options rs) i
other-option rs i m e low high =
    let in_all : i < length (all_parts rs) = omega (arith, high, length-parts rs) in
    let far : i ≡ length (part true rs) + (i - m) = omega (arith, low, e, length-part true rs) in
    sym (get-right (part true rs) (part false rs) i (i - m) far) ∙ sym (get-left (all_parts rs) (by_reservation None ∷ []) i in_all)

pub none-option : (rs : List Reservation) (i : ℕ) → i ≡ length rs → Some (by_reservation None) ≡ slice_get (reservation_options rs) i
none-option rs i e =
    let far : i ≡ length (all_parts rs) + 0 = omega (arith, e, length-parts rs) in
    sym (get-right (all_parts rs) (by_reservation None ∷ []) i 0 far)

pub past-options : (rs : List Reservation) (i : ℕ) → length rs ≤ i → (i ≡ length rs → ⊥) → None ≡ slice_get (reservation_options rs) i
past-options rs i h other =
    sym (slice_get_past (reservation_options rs) i (omega (arith, h, other, length-append (all_parts rs) (by_reservation None ∷ []), length-parts rs)))
