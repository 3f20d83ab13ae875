-- The least of numbers taken one after another, and the first of rules.
use Rattle.std.specs.Prelude.{◌≡◌, ℕ, zero, suc, ◌+◌, ◌<◌, ◌≤◌, Bool, true, false, not, ◌&&◌, ◌||◌, nat_lt, nat_le, cond, List, [], ◌∷◌, ◌++◌, length, map, filter, flat_map, Option, Some, None, refl}
use Rattle.std.specs.List.{list_any, enumerate_from, filter_map, cons_option}
use Rattle.std.specs.Option.{option_map_or}
use Rattle.std.proofs.Common.{sym, ◌∙◌, ap, arith, take, drop, get_or, append_assoc}
use Rattle.std.proofs.lemmas.Bool.Decides.{nat_tests}
use Rattle.std.proofs.lemmas.List.{append-nil}
use Rattle.sect_people.specs.declared.row.Ask.TheVariants.{Course as asks_course, Free}
use Rattle.sect_people.specs.Student.{is_free}
use Rattle.sect_reserve.specs.Audience.{empty_or_any}
use Rattle.sect_base.specs.Pattern.{Pattern, lists_overlap}
use Rattle.std.specs.Option.{option_map, option_map_or}
use Rattle.sect_model.specs.Data.{Ask, Rule, Student}
use Rattle.sect_model.specs.Allowed.{free_before}
use Rattle.sect_model.specs.Rules.{least, first_broken}
use Rattle.sect_moment.specs.FreeTimes.{meets_free, first_free}
use Rattle.sect_moment.specs.Overlapped.{lesser, lesser_of}

least-three : (n m k : ℕ) → cond (nat_le n (cond (nat_le m k) m k)) n (cond (nat_le m k) m k) ≡ cond (nat_le (cond (nat_le n m) n m) k) (cond (nat_le n m) n m) k
least-three n m k = by_test (nat_le n m) (nat_le m k) (nat_le n k) refl refl refl
  where
    by_test : (a b c : Bool) → nat_le n m ≡ a → nat_le m k ≡ b → nat_le n k ≡ c
        → cond (nat_le n (cond b m k)) n (cond b m k) ≡ cond (nat_le (cond a n m) k) (cond a n m) k
    by_test true true true d e f = (λ i. cond (d i) n m) ∙ sym (λ i. cond (f i) n k)
    by_test true true false d e f = absurd (grind (arith, nat_tests, d, e, f))
    by_test true false c d e f = refl
    by_test false true c d e f = (λ i. cond (d i) n m) ∙ sym (λ i. cond (e i) m k)
    by_test false false true d e f = absurd (grind (arith, nat_tests, d, e, f))
    by_test false false false d e f = (λ i. cond (f i) n k) ∙ sym (λ i. cond (e i) m k)

lesser-assoc : (n : ℕ) (a b : Option ℕ) → lesser n (lesser_of a b) ≡ lesser (lesser n a) b
lesser-assoc n None b = refl
lesser-assoc n (Some m) None = refl
lesser-assoc n (Some m) (Some k) = least-three n m k

-- nothing more leaves the least so far
pub lesser-none : (a : Option ℕ) → a ≡ lesser_of a None
lesser-none None = refl
lesser-none (Some n) = refl

-- one after another is all together
pub lesser-join : (a b c : Option ℕ) → lesser_of (lesser_of a b) c ≡ lesser_of a (lesser_of b c)
lesser-join None b c = refl
lesser-join (Some n) b c = ap Some (sym (lesser-assoc n b c))

pub least-append : (ms ns : List ℕ) → least (ms ++ ns) ≡ lesser_of (least ms) (least ns)
least-append [] ns = refl
least-append (m ∷ ms) ns = (λ i. Some (lesser m (least-append ms ns i))) ∙ ap Some (lesser-assoc m (least ms) (least ns))

flat-append : {X Y : Type 0} (f : X → List Y) (xs ys : List X) → flat_map f (xs ++ ys) ≡ flat_map f xs ++ flat_map f ys
flat-append f [] ys = refl
flat-append f (x ∷ xs) ys = ap (λ zs. f x ++ zs) (flat-append f xs ys) ∙ sym (append_assoc (f x) (flat_map f xs) (flat_map f ys))

take-next : {X : Type 0} (xs : List X) (i : ℕ) (x : X) → i < length xs → x ≡ get_or xs i x → take (i + 1) xs ≡ take i xs ++ x ∷ []
take-next [] i x h e = absurd (omega (arith, h))
take-next (y ∷ ys) zero x h e = ap (λ z. z ∷ []) (sym e)
take-next (y ∷ ys) (suc i) x h e =
    let n : suc i + 1 ≡ suc (i + 1) = omega arith in
    (λ j. take (n j) (y ∷ ys)) ∙ ap (λ zs. y ∷ zs) (take-next ys i x (omega (arith, h)) e)

-- the least so far, and of one more
pub least-more : {X : Type 0} (f : X → List ℕ) (xs : List X) (i : ℕ) (x : X) → i < length xs → x ≡ get_or xs i x
    → least (flat_map f (take (i + 1) xs)) ≡ lesser_of (least (flat_map f (take i xs))) (least (f x))
least-more f xs i x h e =
    (λ j. least (flat_map f (take-next xs i x h e j)))
    ∙ ap least (flat-append f (take i xs) (x ∷ []) ∙ ap (λ zs. flat_map f (take i xs) ++ zs) (append-nil (f x)))
    ∙ least-append (flat_map f (take i xs)) (f x)

-- what passes of one more behind the others
pass-more : {X : Type 0} (f : X → ℕ) (test : X → Bool) (xs : List X) (x : X) → map f (filter test (xs ++ x ∷ [])) ≡ map f (filter test xs) ++ map f (cond (test x) (x ∷ []) [])
pass-more f test [] x = by_test (test x)
  where
    by_test : (b : Bool) → map f (cond b (x ∷ []) []) ≡ map f (cond b (x ∷ []) [])
    by_test b = refl
pass-more {X = X} f test (y ∷ ys) x = by_test (test y) (pass-more f test ys x)
  where
    by_test : (b : Bool) → map f (filter test (ys ++ x ∷ [])) ≡ map f (filter test ys) ++ map f (cond (test x) (x ∷ []) [])
        → map f (cond b (y ∷ filter test (ys ++ x ∷ [])) (filter test (ys ++ x ∷ []))) ≡ map f (cond b (y ∷ filter test ys) (filter test ys)) ++ map f (cond (test x) (x ∷ []) [])
    by_test true ih = ap (λ ns. f y ∷ ns) ih
    by_test false ih = ih

-- the least so far, and of one more
pub least-one : {X : Type 0} (f : X → ℕ) (test : X → Bool) (xs : List X) (i : ℕ) (x : X) → i < length xs → x ≡ get_or xs i x
    → least (map f (filter test (take (i + 1) xs))) ≡ lesser_of (least (map f (filter test (take i xs)))) (cond (test x) (Some (f x)) None)
least-one f test xs i x h e =
    (λ j. least (map f (filter test (take-next xs i x h e j))))
    ∙ ap least (pass-more f test (take i xs) x)
    ∙ least-append (map f (filter test (take i xs))) (map f (cond (test x) (x ∷ []) []))
    ∙ ap (lesser_of (least (map f (filter test (take i xs))))) (by_test (test x))
  where
    by_test : (b : Bool) → least (map f (cond b (x ∷ []) [])) ≡ cond b (Some (f x)) None
    by_test true = refl
    by_test false = refl

-- the same of what stands at a place
pub least-got : {X : Type 0} (f : X → ℕ) (test : X → Bool) (xs : List X) (i : ℕ) (d : X) → i < length xs
    → least (map f (filter test (take (i + 1) xs))) ≡ lesser_of (least (map f (filter test (take i xs)))) (cond (test (get_or xs i d)) (Some (f (get_or xs i d))) None)
least-got {X = X} f test xs i d h = least-one f test xs i (get_or xs i d) h (same xs i d (get_or xs i d) h)
  where
    same : (xs : List X) (i : ℕ) (d e : X) → i < length xs → get_or xs i d ≡ get_or xs i e
    same [] i d e h = absurd (omega (arith, h))
    same (x ∷ xs) zero d e h = refl
    same (x ∷ xs) (suc i) d e h = same xs i d e (omega (arith, h))

-- what is left out counts for nothing
pub flat-kept : {X Y : Type 0} (f : X → List Y) (p : X → Bool) (xs : List X) → flat_map f (filter (λ x. not (p x)) xs) ≡ flat_map (λ x. cond (p x) [] (f x)) xs
flat-kept f p [] = refl
flat-kept {X = X} f p (x ∷ xs) = by_test (p x) (flat-kept f p xs)
  where
    by_test : (b : Bool) → flat_map f (filter (λ x. not (p x)) xs) ≡ flat_map (λ x. cond (p x) [] (f x)) xs
        → flat_map f (cond (not b) (x ∷ filter (λ x. not (p x)) xs) (filter (λ x. not (p x)) xs)) ≡ cond b [] (f x) ++ flat_map (λ x. cond (p x) [] (f x)) xs
    by_test true ih = ih
    by_test false ih = ap (λ zs. f x ++ zs) ih

flat-map : {X Y Z : Type 0} (f : Y → List Z) (g : X → Y) (xs : List X) → flat_map f (map g xs) ≡ flat_map (λ x. f (g x)) xs
flat-map f g [] = refl
flat-map f g (x ∷ xs) = ap (λ zs. f (g x) ++ zs) (flat-map f g xs)

-- the least of what stays and of what was made
pub least-both : {X Y : Type 0} (f : X → List ℕ) (p : X → Bool) (g : Y → X) (xs : List X) (ys : List Y)
    → least (flat_map f (filter (λ x. not (p x)) xs ++ map g ys)) ≡ lesser_of (least (flat_map (λ x. cond (p x) [] (f x)) xs)) (least (flat_map (λ y. f (g y)) ys))
least-both f p g xs ys =
    ap least (flat-append f (filter (λ x. not (p x)) xs) (map g ys)) ∙ least-append (flat_map f (filter (λ x. not (p x)) xs)) (flat_map f (map g ys))
    ∙ (λ i. lesser_of (least (flat-kept f p xs i)) (least (flat-map f g ys i)))

-- ---- free times

-- the positions rise, so the first is the least
late : (meetings : List Pattern) (rank n : ℕ) (asks : List Ask) (m : ℕ) → first_free meetings rank n asks ≡ Some m → n ≤ m
late meetings rank n [] m h = cc
late meetings rank n (ask ∷ asks) m h = by_test (nat_lt n rank && meets_free meetings ask) (λ k. late meetings rank (n + 1) asks m k) h
  where
    by_test : (b : Bool) → (first_free meetings rank (n + 1) asks ≡ Some m → n + 1 ≤ m) → cond b (Some n) (first_free meetings rank (n + 1) asks) ≡ Some m → n ≤ m
    by_test true ih h = let same : n ≡ m = cc in omega (arith, same)
    by_test false ih h = omega (arith, ih h)

first-least : (n : ℕ) (o : Option ℕ) → ((m : ℕ) → o ≡ Some m → n + 1 ≤ m) → lesser n o ≡ n
first-least n None h = refl
first-least n (Some m) h = (λ i. cond (before (h m refl) i) n m)
  where
    before : n + 1 ≤ m → nat_le n m ≡ true
    before k = grind (arith, nat_tests, k)

pub least-free : (meetings : List Pattern) (rank n : ℕ) (asks : List Ask)
    → least (map (λ f. f.0) (filter (λ f. lists_overlap meetings (f.1 ∷ [])) (filter_map (free_before rank) (enumerate_from n asks)))) ≡ first_free meetings rank n asks
least-free meetings rank n [] = refl
least-free meetings rank n (asks_course ask ∷ asks) = least-free meetings rank (n + 1) asks ∙ by_test (nat_lt n rank)
  where
    by_test : (b : Bool) → first_free meetings rank (n + 1) asks ≡ cond (b && false) (Some n) (first_free meetings rank (n + 1) asks)
    by_test true = refl
    by_test false = refl
least-free meetings rank n (Free pattern ∷ asks) = by_test (nat_lt n rank) (lists_overlap meetings (pattern ∷ [])) refl (least-free meetings rank (n + 1) asks)
  where
    rest : List (ℕ × Pattern)
    rest = filter_map (free_before rank) (enumerate_from (n + 1) asks)

    test : ℕ × Pattern → Bool
    test f = lists_overlap meetings (f.1 ∷ [])

    by_test : (b c : Bool) → lists_overlap meetings (pattern ∷ []) ≡ c → least (map (λ f. f.0) (filter test rest)) ≡ first_free meetings rank (n + 1) asks
        → least (map (λ f. f.0) (filter test (cons_option (cond b (Some (n, pattern)) None) rest))) ≡ cond (b && c) (Some n) (first_free meetings rank (n + 1) asks)
    by_test false c e ih = ih
    by_test true false e ih = (λ i. least (map (λ f. f.0) (cond (e i) ((n, pattern) ∷ filter test rest) (filter test rest)))) ∙ ih
    by_test true true e ih =
        (λ i. least (map (λ f. f.0) (cond (e i) ((n, pattern) ∷ filter test rest) (filter test rest))))
        ∙ (λ i. Some (lesser n (ih i))) ∙ ap Some (first-least n (first_free meetings rank (n + 1) asks) (late meetings rank (n + 1) asks))

-- none from the rank on
pub free-past : (meetings : List Pattern) (rank n : ℕ) (asks : List Ask) → rank ≤ n → first_free meetings rank n asks ≡ None
free-past meetings rank n [] h = refl
free-past meetings rank n (ask ∷ asks) h =
    (λ i. cond (far i && meets_free meetings ask) (Some n) (first_free meetings rank (n + 1) asks)) ∙ free-past meetings rank (n + 1) asks (omega (arith, h))
  where
    far : nat_lt n rank ≡ false
    far = grind (arith, nat_tests, h)

drop-next : {X : Type 0} (xs : List X) (i : ℕ) (x : X) → i < length xs → x ≡ get_or xs i x → drop i xs ≡ x ∷ drop (i + 1) xs
drop-next [] i x h e = absurd (omega (arith, h))
drop-next (y ∷ ys) zero x h e = ap (λ z. z ∷ ys) (sym e)
drop-next (y ∷ ys) (suc i) x h e =
    let n : suc i + 1 ≡ suc (i + 1) = omega arith in
    drop-next ys i x (omega (arith, h)) e ∙ (λ j. x ∷ drop (sym n j) (y ∷ ys))

module _ (meetings : List Pattern) (rank n : ℕ) (asks : List Ask) (i : ℕ) (ask : Ask) (within : i < length asks) (is_it : ask ≡ get_or asks i ask) where
  -- the one that comes next meets
  pub free-here : n < rank → meets_free meetings ask ≡ true → first_free meetings rank n (drop i asks) ≡ Some n
  free-here h m =
      (λ j. first_free meetings rank n (drop-next asks i ask within is_it j))
      ∙ (λ j. cond (near j && m j) (Some n) (first_free meetings rank (n + 1) (drop (i + 1) asks)))
    where
      near : nat_lt n rank ≡ true
      near = grind (arith, nat_tests, h)

  -- it doesn't
  pub free-later : meets_free meetings ask ≡ false → first_free meetings rank n (drop i asks) ≡ first_free meetings rank (n + 1) (drop (i + 1) asks)
  free-later m =
      (λ j. first_free meetings rank n (drop-next asks i ask within is_it j))
      ∙ (λ j. cond (nat_lt n rank && m j) (Some n) (first_free meetings rank (n + 1) (drop (i + 1) asks)))
      ∙ by_test (nat_lt n rank)
    where
      by_test : (b : Bool) → cond (b && false) (Some n) (first_free meetings rank (n + 1) (drop (i + 1) asks)) ≡ first_free meetings rank (n + 1) (drop (i + 1) asks)
      by_test true = refl
      by_test false = refl

-- ---- rules

-- no rule of the first table is broken
pub first-next : (xs ys : List (Rule × Option ℕ)) → None ≡ first_broken xs → first_broken ys ≡ first_broken (xs ++ ys)
first-next [] ys h = refl
first-next ((rule, None) ∷ xs) ys h = first-next xs ys h
first-next ((rule, Some n) ∷ xs) ys h = cc

-- one is
pub first-found : (xs ys : List (Rule × Option ℕ)) (l : Rule × ℕ) → Some l ≡ first_broken xs → Some l ≡ first_broken (xs ++ ys)
first-found [] ys l h = cc
first-found ((rule, None) ∷ xs) ys l h = first-found xs ys l h
first-found ((rule, Some n) ∷ xs) ys l h = h

-- restrictions that apply, none of which admits
pub none-admits : {X : Type 0} (applies admits : X → Bool) (xs : List X) → list_any applies xs && not (list_any (λ x. applies x && admits x) xs) ≡ not (empty_or_any admits (filter applies xs))
none-admits applies admits [] = refl
none-admits {X = X} applies admits (x ∷ xs) = by_test (applies x) (none-admits applies admits xs)
  where
    any-both : (xs : List X) → list_any (λ x. applies x && admits x) xs ≡ list_any admits (filter applies xs)
    any-both [] = refl
    any-both (y ∷ ys) = by_either (applies y) (any-both ys)
      where
        by_either : (b : Bool) → list_any (λ x. applies x && admits x) ys ≡ list_any admits (filter applies ys) → (b && admits y) || list_any (λ x. applies x && admits x) ys ≡ list_any admits (cond b (y ∷ filter applies ys) (filter applies ys))
        by_either true ih = λ i. admits y || ih i
        by_either false ih = ih

    by_test : (b : Bool) → list_any applies xs && not (list_any (λ x. applies x && admits x) xs) ≡ not (empty_or_any admits (filter applies xs))
        → (b || list_any applies xs) && not ((b && admits x) || list_any (λ x. applies x && admits x) xs) ≡ not (empty_or_any admits (cond b (x ∷ filter applies xs) (filter applies xs)))
    by_test true ih = λ i. not (admits x || any-both xs i)
    by_test false ih = ih

-- the requests of a student that is known
pub asks-free : (rank : ℕ) (x : Option Student) (asks : List Ask) → Some asks ≡ option_map (λ s. s.asks) x
    → filter_map (free_before rank) (enumerate_from 1 asks) ≡ option_map_or (λ s. filter_map (free_before rank) (enumerate_from 1 s.asks)) x []
asks-free rank None asks h = cc
asks-free rank (Some s) asks h = ap (λ xs. filter_map (free_before rank) (enumerate_from 1 xs)) (same asks s.asks h)
  where
    same : (a b : List Ask) → Some a ≡ Some b → a ≡ b
    same a b e = cc

-- one of two tests, where the first is known
pub and-true : (a b : Bool) → a ≡ true → b ≡ a && b
and-true true b h = refl
and-true false b h = cc

pub and-false : (a b : Bool) → a ≡ false → a ≡ a && b
and-false false b h = refl
and-false true b h = cc

-- where no time is to be kept free, none is met
pub none-free : (meetings : List Pattern) (rank n : ℕ) (asks : List Ask) → list_any is_free asks ≡ false → first_free meetings rank n asks ≡ None
none-free meetings rank n [] h = refl
none-free meetings rank n (asks_course ask ∷ asks) h = by_test (nat_lt n rank) ∙ none-free meetings rank (n + 1) asks h
  where
    by_test : (b : Bool) → cond (b && false) (Some n) (first_free meetings rank (n + 1) asks) ≡ first_free meetings rank (n + 1) asks
    by_test true = refl
    by_test false = refl
none-free meetings rank n (Free pattern ∷ asks) h = absurd (differ h)
  where
    differ : true ≡ false → ⊥
    differ h = cc
