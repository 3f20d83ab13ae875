-- Courses that stand a second time, and the first of many lists.
use Rattle.std.specs.Prelude.{◌≡◌, ℕ, zero, suc, Bool, true, false, ◌==◌, ◌||◌, cond, List, [], ◌∷◌, ◌++◌, find, take, drop, Option, Some, refl}
use Rattle.std.specs.List.{list_any}
use Rattle.std.specs.Option.{option_or}
use Rattle.std.proofs.Common.{◌<◌, length, get_or, sym, ◌∙◌, ap, arith}
use Rattle.std.proofs.Math.Seq.{drop-cons}
use Rattle.std.proofs.lemmas.List.Folds.{find-append, list_any-append}
use Rattle.sect_base.specs.declared.ids.CourseId.{CourseId}
use Rattle.sect_people.specs.declared.row.Ask.{Ask}
use Rattle.sect_people.specs.Fault.{courses_of, courses_of_all, lists_course, repeated_after}

-- the first that passes, request by request
pub find-courses : (p : CourseId → Bool) (asks : List Ask) (k : ℕ) (d : Ask) → k < length asks
    → find p (courses_of_all (drop k asks)) ≡ option_or (find p (courses_of (get_or asks k d))) (find p (courses_of_all (drop (suc k) asks)))
find-courses p asks k d l =
    ap (λ rest. find p (courses_of_all rest)) (drop-cons asks k d l) ∙ find-append p (courses_of (get_or asks k d)) (courses_of_all (drop (suc k) asks))

-- a course of the requests is a course of one of them
pub any-courses : (course : CourseId) (asks : List Ask) → list_any (lists_course course) asks ≡ list_any (λ e. e.0 == course.0) (courses_of_all asks)
any-courses course [] = refl
any-courses course (a ∷ asks) =
    (λ i. lists_course course a || any-courses course asks i) ∙ sym (list_any-append (λ e. e.0 == course.0) (courses_of a) (courses_of_all asks))

abbrev is : ℕ → CourseId → Bool
is n c = c.0 == n

swap : (a b c : Bool) → a || (b || c) ≡ b || (a || c)
swap true true c = refl
swap true false c = refl
swap false true c = refl
swap false false c = refl

-- only which courses stand earlier counts
same-earlier : (e f : List CourseId) → ((n : ℕ) → list_any (is n) e ≡ list_any (is n) f) → (cs : List CourseId) → repeated_after e cs ≡ repeated_after f cs
same-earlier e f h [] = refl
same-earlier e f h (c ∷ cs) = λ i. cond (h c.0 i) (Some c.0) (same-earlier (c ∷ e) (c ∷ f) (λ n j. is n c || h n j) cs i)

-- one course more has been taken
moved : (cs : List CourseId) (k : ℕ) (d : CourseId) (e : List CourseId) (n : ℕ) → k < length cs → is n (get_or cs k d) || list_any (is n) (take k cs ++ e) ≡ list_any (is n) (take (suc k) cs ++ e)
moved [] k d e n l = absurd (omega (arith, l))
moved (x ∷ xs) zero d e n l = refl
moved (x ∷ xs) (suc k) d e n l =
    swap (is n (get_or xs k d)) (is n x) (list_any (is n) (take k xs ++ e)) ∙ (λ i. is n x || moved xs k d e n (omega (arith, l)) i)

pub repeated-course : (e cs : List CourseId) (k : ℕ) (d : CourseId) → k < length cs
    → repeated_after (take k cs ++ e) (drop k cs) ≡ cond (list_any (λ x. x.0 == (get_or cs k d).0) (take k cs ++ e)) (Some (get_or cs k d).0) (repeated_after (take (suc k) cs ++ e) (drop (suc k) cs))
repeated-course e cs k d l =
    ap (repeated_after (take k cs ++ e)) (drop-cons cs k d l)
    ∙ (λ i. cond (list_any (λ x. x.0 == (get_or cs k d).0) (take k cs ++ e)) (Some (get_or cs k d).0)
    (same-earlier (get_or cs k d ∷ (take k cs ++ e)) (take (suc k) cs ++ e) (λ n. moved cs k d e n l) (drop (suc k) cs) i))

-- the courses of a list put before the earlier ones
abbrev pushed : List CourseId → List CourseId → List CourseId
pushed e [] = e
pushed e (c ∷ cs) = pushed (c ∷ e) cs

repeated-append : (e cs ds : List CourseId) → repeated_after e (cs ++ ds) ≡ option_or (repeated_after e cs) (repeated_after (pushed e cs) ds)
repeated-append e [] ds = refl
repeated-append e (c ∷ cs) ds = by_test (repeated-append (c ∷ e) cs ds) (list_any (λ x. x.0 == c.0) e)
  where
    by_test : repeated_after (c ∷ e) (cs ++ ds) ≡ option_or (repeated_after (c ∷ e) cs) (repeated_after (pushed (c ∷ e) cs) ds) → (b : Bool)
        → cond b (Some c.0) (repeated_after (c ∷ e) (cs ++ ds)) ≡ option_or (cond b (Some c.0) (repeated_after (c ∷ e) cs)) (repeated_after (pushed (c ∷ e) cs) ds)
    by_test ih true = refl
    by_test ih false = ih

pushed-any : (e cs : List CourseId) (n : ℕ) → list_any (is n) (pushed e cs) ≡ list_any (is n) cs || list_any (is n) e
pushed-any e [] n = refl
pushed-any e (c ∷ cs) n = pushed-any (c ∷ e) cs n ∙ turn (is n c) (list_any (is n) cs) (list_any (is n) e)
  where
    turn : (a b r : Bool) → b || (a || r) ≡ (a || b) || r
    turn true true r = refl
    turn true false r = refl
    turn false true r = refl
    turn false false r = refl

taken-any : (asks : List Ask) (k : ℕ) (d : Ask) (n : ℕ) → k < length asks
    → list_any (is n) (courses_of_all (take (suc k) asks)) ≡ list_any (is n) (courses_of (get_or asks k d)) || list_any (is n) (courses_of_all (take k asks))
taken-any [] k d n l = absurd (omega (arith, l))
taken-any (a ∷ asks) zero d n l = list_any-append (is n) (courses_of a) []
taken-any (a ∷ asks) (suc k) d n l =
    list_any-append (is n) (courses_of a) (courses_of_all (take (suc k) asks))
    ∙ (λ i. list_any (is n) (courses_of a) || taken-any asks k d n (omega (arith, l)) i)
    ∙ swap (list_any (is n) (courses_of a)) (list_any (is n) (courses_of (get_or asks k d))) (list_any (is n) (courses_of_all (take k asks)))
    ∙ (λ i. list_any (is n) (courses_of (get_or asks k d)) || sym (list_any-append (is n) (courses_of a) (courses_of_all (take k asks))) i)

-- the first that stands twice, request by request
pub repeated-ask : (asks : List Ask) (k : ℕ) (d : Ask) → k < length asks
    → repeated_after (courses_of_all (take k asks)) (courses_of_all (drop k asks))
    ≡ option_or (repeated_after (courses_of_all (take k asks)) (courses_of (get_or asks k d))) (repeated_after (courses_of_all (take (suc k) asks)) (courses_of_all (drop (suc k) asks)))
repeated-ask asks k d l =
    let e = courses_of_all (take k asks) in
    let cs = courses_of (get_or asks k d) in
    let rest = courses_of_all (drop (suc k) asks) in
    ap (λ xs. repeated_after e (courses_of_all xs)) (drop-cons asks k d l)
    ∙ repeated-append e cs rest
    ∙ ap (option_or (repeated_after e cs)) (same-earlier (pushed e cs) (courses_of_all (take (suc k) asks)) (λ n. pushed-any e cs n ∙ sym (taken-any asks k d n l)) rest)

-- what one request tells, and where it tells nothing the rest
pub found-in : (p : CourseId → Bool) (asks : List Ask) (k next : ℕ) (a : Ask) → next ≡ suc k → k < length asks → a ≡ get_or asks k a → (o : Option CourseId) → o ≡ find p (courses_of a)
    → option_or o (find p (courses_of_all (drop next asks))) ≡ find p (courses_of_all (drop k asks))
found-in p asks k next a n l is o e =
    (λ i. option_or ((e ∙ ap (λ a. find p (courses_of a)) is) i) (find p (courses_of_all (drop (n i) asks)))) ∙ sym (find-courses p asks k a l)

pub repeated-in : (asks : List Ask) (k next : ℕ) (a : Ask) → next ≡ suc k → k < length asks → a ≡ get_or asks k a → (o : Option ℕ) → o ≡ repeated_after (courses_of_all (take k asks)) (courses_of a)
    → option_or o (repeated_after (courses_of_all (take next asks)) (courses_of_all (drop next asks))) ≡ repeated_after (courses_of_all (take k asks)) (courses_of_all (drop k asks))
repeated-in asks k next a n l is o e =
    (λ i. option_or ((e ∙ ap (λ a. repeated_after (courses_of_all (take k asks)) (courses_of a)) is) i) (repeated_after (courses_of_all (take (n i) asks)) (courses_of_all (drop (n i) asks))))
    ∙ sym (repeated-ask asks k a l)

-- the same of the courses of one request
pub repeated-at : (e cs : List CourseId) (k next : ℕ) (d : CourseId) → next ≡ suc k → k < length cs → (b : Bool) → b ≡ list_any (λ x. x.0 == (get_or cs k d).0) (take k cs ++ e)
    → cond b (Some (get_or cs k d).0) (repeated_after (take next cs ++ e) (drop next cs)) ≡ repeated_after (take k cs ++ e) (drop k cs)
repeated-at e cs k next d n l b h = (λ i. cond (h i) (Some (get_or cs k d).0) (repeated_after (take (n i) cs ++ e) (drop (n i) cs))) ∙ sym (repeated-course e cs k d l)

-- a course that isn't before is in the requests or nowhere
pub any-before : (course : CourseId) (before : List CourseId) (asks : List Ask) → false ≡ list_any (λ e. e.0 == course.0) before
    → list_any (lists_course course) asks ≡ list_any (λ e. e.0 == course.0) (before ++ courses_of_all asks)
any-before course before asks h =
    any-courses course asks ∙ (λ i. h i || list_any (λ e. e.0 == course.0) (courses_of_all asks)) ∙ sym (list_any-append (λ e. e.0 == course.0) before (courses_of_all asks))
