-- One student's row, new or in place of the old one.
use Rattle.std.specs.Prelude.{◌≡◌, ℕ, zero, suc, ◌==◌, Bool, true, false, cond, List, [], ◌∷◌, ◌++◌, length, slice_get, slice_set, slice_index_or, Option, Some, None, refl}
use Rattle.std.specs.Option.{is_some, option_map, option_map_or, option_and_then}
use Rattle.std.specs.Bool.{then_some}
use Rattle.std.proofs.Common.{sym, ◌∙◌, ap, arith}
use Rattle.std.proofs.lemmas.Bool.{eqb-true, eq-eqb}
use Rattle.std.proofs.lemmas.Bool.Decides.{nat_tests}
use Rattle.std.proofs.lemmas.Option.{none-some}
use Rattle.sect_base.specs.Calendar.{is_set}
use Rattle.sect_weeks.specs.declared.weeks.Row.{Row}
use Rattle.sect_weeks.specs.declared.weeks.Weeks.{Weeks}
use Rattle.sect_weeks.specs.Rows.{own_row, own_place, row_of, Puts, Keeps}

pub none-of : {X : Type 0} (o : Option X) → is_some o ≡ false → o ≡ None
none-of None h = refl
none-of (Some x) h = absurd (grind (arith, h))

some-same : {X : Type 0} (x y : X) → Some x ≡ Some y → x ≡ y
some-same x y h = ap (λ o. option_map_or (λ z. z) o x) h

-- a student without a place has no row
pub none-row : (rows : List Row) (q : ℕ) (o : Option ℕ) → own_place rows q o ≡ None → own_row rows q o ≡ None
none-row rows q None h = refl
none-row rows q (Some i) h = by_row (slice_get rows i) h
  where
    by_test : (r : Row) (b : Bool) → then_some b i ≡ None → then_some b r ≡ None
    by_test r true h = absurd (none-some i (sym h))
    by_test r false h = refl

    by_row : (o : Option Row) → option_and_then (λ r. then_some (r.student.0 == q) i) o ≡ None → option_and_then (λ r. then_some (r.student.0 == q) r) o ≡ None
    by_row None h = refl
    by_row (Some r) h = by_test r (r.student.0 == q) h

-- ---- a new row

at-end : (rows : List Row) (r : Row) → slice_get (rows ++ r ∷ []) (length rows) ≡ Some r
at-end [] r = refl
at-end (x ∷ xs) r = at-end xs r

still : (rows : List Row) (r : Row) (q : ℕ) → r.student.0 == q ≡ false → (i : ℕ)
    → option_and_then (λ x. then_some (x.student.0 == q) x) (slice_get (rows ++ r ∷ []) i) ≡ option_and_then (λ x. then_some (x.student.0 == q) x) (slice_get rows i)
still [] r q e zero = ap (λ b. then_some b r) e
still [] r q e (suc i) = refl
still (x ∷ xs) r q e zero = refl
still (x ∷ xs) r q e (suc i) = still xs r q e i

-- a row behind the others, found at its student's place
pub row-added : (rows more : List Row) (p new : ℕ → Option ℕ) (r : Row) (place : ℕ) → more ≡ rows ++ r ∷ [] → place ≡ length rows
    → ((q : ℕ) → new q ≡ cond (r.student.0 == q) (Some place) (p q)) → (q : ℕ) → own_row more q (new q) ≡ cond (r.student.0 == q) (Some r) (own_row rows q (p q))
row-added rows more p new r place m l n q = (λ i. own_row (m i) q (n q i)) ∙ by_test (r.student.0 == q) refl
  where
    by_place : r.student.0 == q ≡ false → (o : Option ℕ) → own_row (rows ++ r ∷ []) q o ≡ own_row rows q o
    by_place e None = refl
    by_place e (Some i) = still rows r q e i

    by_test : (b : Bool) → r.student.0 == q ≡ b → own_row (rows ++ r ∷ []) q (cond b (Some place) (p q)) ≡ cond b (Some r) (own_row rows q (p q))
    by_test true e =
        ap (λ k. option_and_then (λ x. then_some (x.student.0 == q) x) (slice_get (rows ++ r ∷ []) k)) l
        ∙ ap (option_and_then (λ x. then_some (x.student.0 == q) x)) (at-end rows r)
        ∙ ap (λ b. then_some b r) e
    by_test false e = by_place e (p q)

-- where it is empty, nothing else changes
pub keeps-added : (t u : Weeks) (r : Row) → r.credits ≡ 0 → ((day slot : ℕ) → is_set r.calendar day slot ≡ false) → row_of t r.student.0 ≡ None
    → ((q : ℕ) → row_of u q ≡ cond (r.student.0 == q) (Some r) (row_of t q)) → Keeps t u
keeps-added t u r none empty fresh more = record {
  taken = λ q day slot. ap (taken_in day slot) (more q) ∙ by_taken q day slot (r.student.0 == q) refl;
  credits = λ q. ap counted_in (more q) ∙ by_credits q (r.student.0 == q) refl;
  rows = λ q h. ap known_in (more q) ∙ by_rows q (r.student.0 == q) h;
}
  where
    taken_in : ℕ → ℕ → Option Row → Bool
    taken_in day slot o = option_map_or (λ words. is_set words day slot) (option_map (λ r. r.calendar) o) false

    counted_in : Option Row → ℕ
    counted_in o = option_map_or (λ r. r.credits) o 0

    known_in : Option Row → Bool
    known_in o = is_some (option_map (λ r. r.calendar) o)

    gone : (q : ℕ) → r.student.0 == q ≡ true → row_of t q ≡ None
    gone q e = ap (λ n. row_of t n) (sym (eqb-true r.student.0 q e)) ∙ fresh

    by_taken : (q day slot : ℕ) (b : Bool) → r.student.0 == q ≡ b → taken_in day slot (cond b (Some r) (row_of t q)) ≡ taken_in day slot (row_of t q)
    by_taken q day slot true e = empty day slot ∙ sym (ap (taken_in day slot) (gone q e))
    by_taken q day slot false e = refl

    by_credits : (q : ℕ) (b : Bool) → r.student.0 == q ≡ b → counted_in (cond b (Some r) (row_of t q)) ≡ counted_in (row_of t q)
    by_credits q true e = none ∙ sym (ap counted_in (gone q e))
    by_credits q false e = refl

    by_rows : (q : ℕ) (b : Bool) → known_in (row_of t q) ≡ true → known_in (cond b (Some r) (row_of t q)) ≡ true
    by_rows q true h = refl
    by_rows q false h = h

-- the student of the row is known
pub known-added : (u : Weeks) (r : Row) (rest : Option Row) → row_of u r.student.0 ≡ cond (r.student.0 == r.student.0) (Some r) rest → is_some (option_map (λ r. r.calendar) (row_of u r.student.0)) ≡ true
known-added u r rest h =
    ap (λ o. is_some (option_map (λ r. r.calendar) o)) h ∙ ap (λ b. is_some (option_map (λ r. r.calendar) (cond b (Some r) rest))) (eq-eqb r.student.0 r.student.0 refl)

-- ---- a row in place of the old one

get-set : (xs : List Row) (i : ℕ) (y old : Row) → slice_get xs i ≡ Some old → slice_get (slice_set xs i y) i ≡ Some y
get-set [] i y old h = absurd (none-some old h)
get-set (x ∷ xs) zero y old h = refl
get-set (x ∷ xs) (suc i) y old h = get-set xs i y old h

get-other : (xs : List Row) (i j : ℕ) (y : Row) → j == i ≡ false → slice_get (slice_set xs i y) j ≡ slice_get xs j
get-other [] i j y h = refl
get-other (x ∷ xs) zero zero y h = absurd (grind (arith, h))
get-other (x ∷ xs) zero (suc j) y h = refl
get-other (x ∷ xs) (suc i) zero y h = refl
get-other (x ∷ xs) (suc i) (suc j) y h = let d : j == i ≡ false = grind (arith, nat_tests, h) in get-other xs i j y d

-- what stands at a student's place
record Stands (rows : List Row) (id place : ℕ) (o : Option ℕ) : Type 0 where
  at : o ≡ Some place
  old : Row
  is_old : slice_get rows place ≡ Some old
  own : old.student.0 == id ≡ true

stands : (rows : List Row) (id place : ℕ) (o : Option ℕ) → own_place rows id o ≡ Some place → Stands rows id place o
stands rows id place None h = absurd (none-some place h)
stands rows id place (Some i) h = by_row (slice_get rows i) refl h
  where
    by_own : (old : Row) → slice_get rows i ≡ Some old → (b : Bool) → old.student.0 == id ≡ b → then_some b i ≡ Some place → Stands rows id place (Some i)
    by_own old e true t h = let same : i ≡ place = some-same i place h in record { at = ap (λ k. Some k) same; old = old; is_old = ap (slice_get rows) (sym same) ∙ e; own = t }
    by_own old e false t h = absurd (none-some place h)

    by_row : (o : Option Row) → slice_get rows i ≡ o → option_and_then (λ r. then_some (r.student.0 == id) i) o ≡ Some place → Stands rows id place (Some i)
    by_row None e h = absurd (none-some place h)
    by_row (Some old) e h = by_own old e (old.student.0 == id) refl h

-- what is read at a place stands there
get-or : (xs : List Row) (i : ℕ) (d old : Row) → slice_get xs i ≡ Some old → slice_index_or xs i d ≡ old
get-or [] i d old h = absurd (none-some old h)
get-or (x ∷ xs) zero d old h = some-same x old h
get-or (x ∷ xs) (suc i) d old h = get-or xs i d old h

-- a row that is read at a student's place is the student's
pub row-at : (rows : List Row) (id place : ℕ) (o : Option ℕ) (r : Row) → own_place rows id o ≡ Some place → r ≡ slice_index_or rows place r → own_row rows id o ≡ Some r
row-at rows id place o r is at =
    let s : Stands rows id place o = stands rows id place o is in
    ap (own_row rows id) s.at
    ∙ ap (option_and_then (λ x. then_some (x.student.0 == id) x)) s.is_old
    ∙ ap (λ b. then_some b s.old) s.own
    ∙ ap (λ x. Some x) (sym (at ∙ get-or rows place r s.old s.is_old))

pub owner-at : (rows : List Row) (id place : ℕ) (o : Option ℕ) (r : Row) → own_place rows id o ≡ Some place → r ≡ slice_index_or rows place r → r.student.0 ≡ id
owner-at rows id place o r is at =
    let s : Stands rows id place o = stands rows id place o is in
    ap (λ (x : Row). x.student.0) (at ∙ get-or rows place r s.old s.is_old) ∙ eqb-true s.old.student.0 id s.own

pub row-put : (rows : List Row) (p : ℕ → Option ℕ) (id place : ℕ) (r : Row) → r.student.0 ≡ id → own_place rows id (p id) ≡ Some place
    → (q : ℕ) → own_row (slice_set rows place r) q (p q) ≡ cond (id == q) (Some r) (own_row rows q (p q))
row-put rows p id place r own is q = by_test (id == q) refl
  where
    s : Stands rows id place (p id)
    s = stands rows id place (p id) is

    test : Row → Option Row
    test x = then_some (x.student.0 == q) x

    by_same : id == q ≡ false → (i : ℕ) (b : Bool) → i == place ≡ b → option_and_then test (slice_get (slice_set rows place r) i) ≡ option_and_then test (slice_get rows i)
    by_same e i true t =
        let here : i ≡ place = eqb-true i place t in
        let new : r.student.0 == q ≡ false = ap (λ n. n == q) own ∙ e in
        let old : s.old.student.0 == q ≡ false = ap (λ n. n == q) (eqb-true s.old.student.0 id s.own) ∙ e in
        ap (λ k. option_and_then test (slice_get (slice_set rows place r) k)) here
        ∙ ap (option_and_then test) (get-set rows place r s.old s.is_old)
        ∙ ap (λ b. then_some b r) new
        ∙ sym (ap (λ k. option_and_then test (slice_get rows k)) here ∙ ap (option_and_then test) s.is_old ∙ ap (λ b. then_some b s.old) old)
    by_same e i false t = ap (option_and_then test) (get-other rows place i r t)

    by_place : id == q ≡ false → (o : Option ℕ) → own_row (slice_set rows place r) q o ≡ own_row rows q o
    by_place e None = refl
    by_place e (Some i) = by_same e i (i == place) refl

    by_test : (b : Bool) → id == q ≡ b → own_row (slice_set rows place r) q (p q) ≡ cond b (Some r) (own_row rows q (p q))
    by_test true e =
        let same : id ≡ q = eqb-true id q e in
        ap (own_row (slice_set rows place r) q) (ap p (sym same) ∙ s.at)
        ∙ ap (option_and_then test) (get-set rows place r s.old s.is_old)
        ∙ ap (λ b. then_some b r) (eq-eqb r.student.0 q (own ∙ same))
    by_test false e = by_place e (p q)

pub puts-from : (t u : Weeks) (id : ℕ) (r : Row) → ((q : ℕ) → row_of u q ≡ cond (id == q) (Some r) (row_of t q)) → Puts t u id r.calendar r.credits
puts-from t u id r more = record {
  calendars = λ q. ap (option_map (λ r. r.calendar)) (more q) ∙ by_calendar (id == q) (row_of t q);
  counted = λ q. ap (λ o. option_map_or (λ r. r.credits) o 0) (more q) ∙ by_credits (id == q) (row_of t q);
}
  where
    by_calendar : (b : Bool) (o : Option Row) → option_map (λ (r : Row). r.calendar) (cond b (Some r) o) ≡ cond b (Some r.calendar) (option_map (λ r. r.calendar) o)
    by_calendar true o = refl
    by_calendar false o = refl

    by_credits : (b : Bool) (o : Option Row) → option_map_or (λ (r : Row). r.credits) (cond b (Some r) o) 0 ≡ cond b r.credits (option_map_or (λ r. r.credits) o 0)
    by_credits true o = refl
    by_credits false o = refl
