-- The courses of the catalogue in rising order: which there are, and what requests are checked by.
use Rattle.std.specs.Prelude.{◌≡◌, ℕ, Bool, true, false, not, ◌==◌, ◌||◌, nat_lt, nat_le, cond, List, [], ◌∷◌, map, length, find, refl}
use Rattle.std.specs.List.{list_any}
use Rattle.std.specs.List.Sorted.{IsNonDecreasingBy}
use Rattle.std.specs.Bool.{then_some}
use Rattle.std.specs.Option.{option_or, option_map}
use Rattle.std.proofs.Common.{◌∙◌, ap, arith}
use Rattle.std.proofs.lemmas.Bool.Decides.{nat_tests}
use Rattle.sect_base.specs.Capped.{capped}
use Rattle.sect_base.specs.declared.ids.CourseId.{CourseId}
use Rattle.sect_catalog.specs.declared.row.OfferingRow.{OfferingRow}
use Rattle.sect_catalog.specs.Catalogue.{all_courses}
use Rattle.sect_catalog.specs.Rising.{put_rising, put_all_rising, rising_courses}
use Rattle.sect_people.specs.declared.row.Ask.{Ask}
use Rattle.sect_people.specs.declared.row.RequestFault.TheVariants.{UnknownCourse, Twice, TooMany}
use Rattle.sect_people.specs.Fault.{fault_of, courses_of_all, repeated_after, first_bad_length}
use Rattle.sect_model.specs.World.{put_behind}
use Rattle.sect_model.specs.Kept.{is_ordered_by}
use Rattle.sect_model.proofs.PutLemmas.{ordered-put}
use Rattle.sect_roster.proofs.PlaceLemmas.{rises}

flip : (a b : ℕ) → nat_lt a b ≡ not (nat_le b a)
flip a b = by_test (nat_lt a b) (nat_le b a) refl refl
  where
    by_test : (s t : Bool) → nat_lt a b ≡ s → nat_le b a ≡ t → s ≡ not t
    by_test true true p q = absurd (grind (arith, nat_tests, p, q))
    by_test true false p q = refl
    by_test false true p q = refl
    by_test false false p q = absurd (grind (arith, nat_tests, p, q))

-- an id put before the first that is larger stands behind those that aren't
put-same : (id : CourseId) (xs : List CourseId) → put_rising id xs ≡ put_behind (λ c. c.0) id xs
put-same id [] = refl
put-same id (x ∷ xs) = (λ i. cond (flip id.0 x.0 i) (id ∷ x ∷ xs) (x ∷ put-same id xs i)) ∙ turn (nat_le x.0 id.0) (x ∷ put_behind (λ c. c.0) id xs) (id ∷ x ∷ xs)
  where
    turn : {X : Type 0} (b : Bool) (y z : X) → cond (not b) z y ≡ cond b y z
    turn true y z = refl
    turn false y z = refl

ordered-all : (ids xs : List CourseId) → is_ordered_by (λ c. c.0) ids ≡ true → is_ordered_by (λ c. c.0) (put_all_rising ids xs) ≡ true
ordered-all ids [] h = h
ordered-all ids (x ∷ xs) h = ordered-all (put_rising x ids) xs (ap (is_ordered_by (λ c. c.0)) (put-same x ids) ∙ ordered-put (λ c. c.0) x ids h)

-- the courses rise
pub courses-rise : (rows : List OfferingRow) → IsNonDecreasingBy (λ c. c.0) (rising_courses rows)
courses-rise rows = rises (λ c. c.0) (rising_courses rows) (ordered-all [] (map (λ c. c.id) (all_courses rows)) refl)

abbrev is : ℕ → CourseId → Bool
is n c = c.0 == n

or-swap : (a b c : Bool) → a || (b || c) ≡ b || (a || c)
or-swap true true c = refl
or-swap true false c = refl
or-swap false b c = refl

any-put : (n : ℕ) (id : CourseId) (xs : List CourseId) → list_any (is n) (put_rising id xs) ≡ is n id || list_any (is n) xs
any-put n id [] = refl
any-put n id (x ∷ xs) = by_test (any-put n id xs) (nat_lt id.0 x.0)
  where
    by_test : list_any (is n) (put_rising id xs) ≡ is n id || list_any (is n) xs → (b : Bool) → list_any (is n) (cond b (id ∷ x ∷ xs) (x ∷ put_rising id xs)) ≡ is n id || (is n x || list_any (is n) xs)
    by_test ih true = refl
    by_test ih false = ap (λ b. is n x || b) ih ∙ or-swap (is n x) (is n id) (list_any (is n) xs)

any-all : (n : ℕ) (ids xs : List CourseId) → list_any (is n) (put_all_rising ids xs) ≡ list_any (is n) xs || list_any (is n) ids
any-all n ids [] = refl
any-all n ids (x ∷ xs) = any-all n (put_rising x ids) xs ∙ ap (λ b. list_any (is n) xs || b) (any-put n x ids) ∙ turn (list_any (is n) xs) (is n x) (list_any (is n) ids)
  where
    turn : (a b c : Bool) → a || (b || c) ≡ (b || a) || c
    turn true true c = refl
    turn true false c = refl
    turn false true c = refl
    turn false false c = refl

-- the same courses are known
known-same : (rows : List OfferingRow) (n : ℕ) → list_any (is n) (rising_courses rows) ≡ list_any (is n) (map (λ c. c.id) (all_courses rows))
known-same rows n = any-all n [] (map (λ c. c.id) (all_courses rows)) ∙ none (list_any (is n) (map (λ c. c.id) (all_courses rows)))
  where
    none : (b : Bool) → b || false ≡ b
    none true = refl
    none false = refl

-- so the fault is the same
pub fault-same : (asks : List Ask) (rows : List OfferingRow) → fault_of asks (rising_courses rows) ≡ fault_of asks (map (λ c. c.id) (all_courses rows))
fault-same asks rows =
    λ i. option_or (option_map (λ c. UnknownCourse c.0) (find (λ c. not (known-same rows c.0 i)) (courses_of_all asks)))
    (option_or (option_map Twice (repeated_after [] (courses_of_all asks)))
    (option_map (λ n. TooMany (capped n))
    (option_or (then_some (nat_lt 20 (length asks)) (length asks)) (first_bad_length asks))))
