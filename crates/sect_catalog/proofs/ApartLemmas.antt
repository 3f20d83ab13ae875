-- Ids that rise within their kind stand once.
use Rattle.std.specs.Prelude.{◌≡◌, ℕ, zero, suc, ◌+◌, ◌<◌, ◌≤◌, ◌==◌, ◌&&◌, nat_lt, cond, Bool, true, false, List, [], ◌∷◌, ◌++◌, length, map, filter, flat_map, slice_get, slice_set, Option, Some, None, refl}
use Rattle.std.specs.Option.{option_and_then, option_map_or, is_some}
use Rattle.std.proofs.lemmas.Option.{none-some}
use Rattle.std.proofs.lemmas.Bool.{eqb-true}
use Rattle.std.proofs.lemmas.Bool.Decides.{nat_tests}
use Rattle.std.proofs.Common.{sym, ◌∙◌, ap, arith, drop, get_or}
use Rattle.sect_catalog.specs.declared.row.OfferingRow.{OfferingRow}
use Rattle.sect_catalog.specs.Fault.{same_kind, row_ids}
use Rattle.sect_catalog.specs.Apart.{past, past_all, no_floors, AreApart}
use Rattle.sect_catalog.proofs.SearchLemmas.{from}

pub past-append : (floors : List ℕ) (xs ys : List (ℕ × ℕ)) → past_all floors (xs ++ ys) ≡ option_and_then (λ f. past_all f ys) (past_all floors xs)
past-append floors [] ys = refl
past-append floors (x ∷ xs) ys = by_past (λ f. past-append f xs ys) (past floors x)
  where
    by_past : ((f : List ℕ) → past_all f (xs ++ ys) ≡ option_and_then (λ f. past_all f ys) (past_all f xs)) → (next : Option (List ℕ))
        → option_and_then (λ f. past_all f (xs ++ ys)) next ≡ option_and_then (λ f. past_all f ys) (option_and_then (λ f. past_all f xs) next)
    by_past ih None = refl
    by_past ih (Some f) = ih f

-- a pass that goes on where a part has risen
module _ {X : Type 0} (whole : List ℕ → List X → Option (List ℕ)) (part : List ℕ → X → Option (List ℕ))
    (law : (f : List ℕ) (x : X) (xs : List X) → whole f (x ∷ xs) ≡ option_and_then (λ g. whole g xs) (part f x)) where
  pub risen : (all r : Option (List ℕ)) (f g : List ℕ) (xs : List X) (i : ℕ) (x : X) → i < length xs → x ≡ get_or xs i x
      → all ≡ whole f (drop i xs) → r ≡ part f x → r ≡ Some g → all ≡ whole g (drop (i + 1) xs)
  risen all r f g xs i x h e so tells is =
      so ∙ ap (whole f) (from xs i x h e) ∙ law f x (drop (i + 1) xs) ∙ ap (option_and_then (λ g. whole g (drop (i + 1) xs))) (sym tells ∙ is)

  pub stopped : (all r : Option (List ℕ)) (f : List ℕ) (xs : List X) (i : ℕ) (x : X) → i < length xs → x ≡ get_or xs i x
      → all ≡ whole f (drop i xs) → r ≡ part f x → r ≡ None → None ≡ all
  stopped all r f xs i x h e so tells is =
      sym (so ∙ ap (whole f) (from xs i x h e) ∙ law f x (drop (i + 1) xs) ∙ ap (option_and_then (λ g. whole g (drop (i + 1) xs))) (sym tells ∙ is))

pub past-parts : {X : Type 0} (ids : X → List (ℕ × ℕ)) (f : List ℕ) (x : X) (xs : List X)
    → past_all f (flat_map ids (x ∷ xs)) ≡ option_and_then (λ g. past_all g (flat_map ids xs)) (past_all f (ids x))
past-parts ids f x xs = past-append f (ids x) (flat_map ids xs)

pub past-each : {X : Type 0} (id : X → ℕ × ℕ) (f : List ℕ) (x : X) (xs : List X)
    → past_all f (map id (x ∷ xs)) ≡ option_and_then (λ g. past_all g (map id xs)) (past f (id x))
past-each id f x xs = refl

-- how often the id stands in the list
abbrev times : ℕ × ℕ → List (ℕ × ℕ) → ℕ
times q ids = length (filter (same_kind q) ids)

get-set : (xs : List ℕ) (i y n : ℕ) → slice_get xs i ≡ Some n → slice_get (slice_set xs i y) i ≡ Some y
get-set [] i y n h = absurd (none-some n h)
get-set (x ∷ xs) zero y n h = refl
get-set (x ∷ xs) (suc i) y n h = get-set xs i y n h

get-other : (xs : List ℕ) (i j y : ℕ) → j == i ≡ false → slice_get (slice_set xs i y) j ≡ slice_get xs j
get-other [] i j y h = refl
get-other (x ∷ xs) zero zero y h = absurd (grind (arith, h))
get-other (x ∷ xs) zero (suc j) y h = refl
get-other (x ∷ xs) (suc i) zero y h = refl
get-other (x ∷ xs) (suc i) (suc j) y h = let d : j == i ≡ false = grind (arith, nat_tests, h) in get-other xs i j y d

some-same : {X : Type 0} (x y : X) → Some x ≡ Some y → x ≡ y
some-same x y h = ap (λ o. option_map_or (λ z. z) o x) h

-- what passing one id leaves
record Step (floors g : List ℕ) (id : ℕ × ℕ) : Type 0 where
  own : slice_get g id.0 ≡ Some (id.1 + 1)
  other : (k : ℕ) → k == id.0 ≡ false → slice_get g k ≡ slice_get floors k
  least : (n : ℕ) → slice_get floors id.0 ≡ Some n → n ≤ id.1

stepped : (floors g : List ℕ) (id : ℕ × ℕ) → past floors id ≡ Some g → Step floors g id
stepped floors g id h = by_floor (slice_get floors id.0) refl h
  where
    next : List ℕ
    next = slice_set floors id.0 (id.1 + 1)

    by_test : (m : ℕ) → slice_get floors id.0 ≡ Some m → (b : Bool) → nat_lt id.1 m ≡ b → cond b None (Some next) ≡ Some g → Step floors g id
    by_test m e true t h = absurd (none-some g h)
    by_test m e false t h =
        let same : next ≡ g = some-same next g h in
        record {
          own = ap (λ f. slice_get f id.0) (sym same) ∙ get-set floors id.0 (id.1 + 1) m e;
          other = λ k d. ap (λ f. slice_get f k) (sym same) ∙ get-other floors id.0 k (id.1 + 1) d;
          least = λ n o. let is : n ≡ m = some-same n m (sym o ∙ e) in grind (arith, nat_tests, t, is);
        }

    by_floor : (o : Option ℕ) → slice_get floors id.0 ≡ o → option_and_then (λ floor. cond (nat_lt id.1 floor) None (Some next)) o ≡ Some g → Step floors g id
    by_floor None e h = absurd (none-some g h)
    by_floor (Some m) e h = by_test m e (nat_lt id.1 m) refl h

-- an id below its kind's floor doesn't stand among ids that rise from there
clear : (floors f : List ℕ) (ids : List (ℕ × ℕ)) → past_all floors ids ≡ Some f → (q : ℕ × ℕ) (n : ℕ) → slice_get floors q.0 ≡ Some n → q.1 < n → times q ids ≡ 0
clear floors f [] h q n e l = refl
clear floors f (id ∷ ids) h q n e l = by_past (λ g k m i b. clear g f ids k q m i b) (past floors id) refl h
  where
    by_kind : ((g : List ℕ) → past_all g ids ≡ Some f → (m : ℕ) → slice_get g q.0 ≡ Some m → q.1 < m → times q ids ≡ 0)
        → (g : List ℕ) → Step floors g id → past_all g ids ≡ Some f → (b : Bool) → q.0 == id.0 ≡ b
        → length (cond (b && q.1 == id.1) (id ∷ filter (same_kind q) ids) (filter (same_kind q) ids)) ≡ 0
    by_kind ih g s h true k =
        let kind : q.0 ≡ id.0 = eqb-true q.0 id.0 k in
        let least : n ≤ id.1 = s.least n (ap (slice_get floors) (sym kind) ∙ e) in
        let differs : q.1 == id.1 ≡ false = grind (arith, nat_tests, l, least) in
        ap (λ b. length (cond b (id ∷ filter (same_kind q) ids) (filter (same_kind q) ids))) differs
        ∙ ih g h (id.1 + 1) (ap (slice_get g) kind ∙ s.own) (omega (arith, l, least))
    by_kind ih g s h false k = ih g h n (s.other q.0 k ∙ e) l

    by_past : ((g : List ℕ) → past_all g ids ≡ Some f → (m : ℕ) → slice_get g q.0 ≡ Some m → q.1 < m → times q ids ≡ 0)
        → (o : Option (List ℕ)) → past floors id ≡ o → option_and_then (λ g. past_all g ids) o ≡ Some f → times q (id ∷ ids) ≡ 0
    by_past ih None e h = absurd (none-some f h)
    by_past ih (Some g) e h = by_kind ih g (stepped floors g id e) h (q.0 == id.0) refl

once : (floors f : List ℕ) (ids : List (ℕ × ℕ)) → past_all floors ids ≡ Some f → (q : ℕ × ℕ) → times q ids ≤ 1
once floors f [] h q = omega arith
once floors f (id ∷ ids) h q = by_past (λ g k. once g f ids k q) (past floors id) refl h
  where
    by_kind : (g : List ℕ) → Step floors g id → past_all g ids ≡ Some f → times q ids ≤ 1 → (b c : Bool) → q.0 == id.0 ≡ b → q.1 == id.1 ≡ c
        → length (cond (b && c) (id ∷ filter (same_kind q) ids) (filter (same_kind q) ids)) ≤ 1
    by_kind g s h ih true true k o =
        let kind : q.0 ≡ id.0 = eqb-true q.0 id.0 k in
        let own : q.1 ≡ id.1 = eqb-true q.1 id.1 o in
        let none : times q ids ≡ 0 = clear g f ids h q (id.1 + 1) (ap (slice_get g) kind ∙ s.own) (omega (arith, own)) in
        omega (arith, none)
    by_kind g s h ih true false k o = ih
    by_kind g s h ih false c k o = ih

    by_past : ((g : List ℕ) → past_all g ids ≡ Some f → times q ids ≤ 1) → (o : Option (List ℕ)) → past floors id ≡ o
        → option_and_then (λ g. past_all g ids) o ≡ Some f → times q (id ∷ ids) ≤ 1
    by_past ih None e h = absurd (none-some f h)
    by_past ih (Some g) e h = by_kind g (stepped floors g id e) h (ih g h) (q.0 == id.0) (q.1 == id.1) refl refl

-- in a row whose ids rise none stands twice
pub apart : (o : OfferingRow) (r : Option (List ℕ)) → r ≡ past_all no_floors (row_ids o) → is_some r ≡ true → AreApart o
apart o None h k = absurd (grind (arith, k))
apart o (Some f) h k = λ q. let few : times q (row_ids o) ≤ 1 = once no_floors f (row_ids o) (sym h) q in grind (arith, nat_tests, few)

-- a pass through two parts, where the first is passed
pub past-both : (f g : List ℕ) (a : Option (List ℕ)) (xs ys : List (ℕ × ℕ)) → a ≡ past_all f xs → a ≡ Some g → past_all f (xs ++ ys) ≡ past_all g ys
past-both f g a xs ys tells is = past-append f xs ys ∙ ap (option_and_then (λ f. past_all f ys)) (sym tells ∙ is)

pub stopped-first : (f : List ℕ) (a : Option (List ℕ)) (xs ys : List (ℕ × ℕ)) → a ≡ past_all f xs → a ≡ None → None ≡ past_all f (xs ++ ys)
stopped-first f a xs ys tells is = sym (past-append f xs ys ∙ ap (option_and_then (λ f. past_all f ys)) (sym tells ∙ is))

pub past-first : (f g : List ℕ) (a : Option (List ℕ)) (id : ℕ × ℕ) (ids : List (ℕ × ℕ)) → a ≡ past f id → a ≡ Some g → past_all f (id ∷ ids) ≡ past_all g ids
past-first f g a id ids tells is = ap (option_and_then (λ f. past_all f ids)) (sym tells ∙ is)
