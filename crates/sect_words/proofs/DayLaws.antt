-- The text of a day is its one spelling.
use Rattle.std.proofs.Common.{◌≡◌, ℕ, zero, suc, ◌<◌, ◌≤◌, true, List, Option, None, Some, refl, ap, sym, ◌∙◌, arith, inl, inr, nat_le, subst, ◌⊎◌}
use Rattle.std.specs.Prelude.{pos, ◌&&◌, if◌then◌else◌}
use Rattle.std.specs.Ordering.{int_eq}
use Rattle.std.proofs.lemmas.Int.{ints}
use Rattle.std.proofs.lemmas.Bool.Decides.{nat_tests, Decides-int_eq}
use Rattle.std.proofs.lemmas.Bool.{and_parts, and_from, cases_lt}
use Rattle.std.proofs.lemmas.Option.{cond_some}
use Rattle.jiff_core.specs.Calendar.{IsDate, days_in_month, days_from_civil}
use Rattle.jiff_core.proofs.CalendarLemmas.{days_in_month_bounds}
use Rattle.sect_base.specs.DayText.{date_text, IsDayText}
use Rattle.sect_base.proofs.DayTexts.{one_spelling}
use Rattle.sect_words.specs.Days.{either_of, found_below, has_number, text_if, or_nothing, day_text}

le_test : (a b : ℕ) → nat_le a b ≡ true → a ≤ b
le_test a b e = grind (arith, nat_tests)

test_le : (a b : ℕ) → a ≤ b → nat_le a b ≡ true
test_le a b h = grind (arith, nat_tests)

-- the bound is one above what is tested first
found_first : {X : Type 0} (find : ℕ → Option X) (n : ℕ) (x : X) (o : Option X) → find n ≡ o
    → (found_below find n ≡ Some x → (k : ℕ) × (k < n) × (find k ≡ Some x))
    → either_of o (found_below find n) ≡ Some x → (k : ℕ) × (k < suc n) × (find k ≡ Some x)
found_first find n x None is later e = let found = later e in (found.0, omega (arith, found.1), found.2)
found_first find n x (Some y) is later e = (n, omega arith, is ∙ e)

-- what is found below a bound is found at a number below it
pub found_at : {X : Type 0} (find : ℕ → Option X) (n : ℕ) (x : X) → found_below find n ≡ Some x → (k : ℕ) × (k < n) × (find k ≡ Some x)
unfolding found_below
found_at find zero x e = absurd (cc)
found_at find (suc n) x e = found_first find n x (find n) refl (λ p. found_at find n x p) e

still_found : {X : Type 0} (first other : Option X) (x : X) → other ≡ Some x → (y : X) × (either_of first other ≡ Some y)
still_found None other x e = (x, e)
still_found (Some y) other x e = (y, refl)

first_found : {X : Type 0} (first other : Option X) (x : X) → first ≡ Some x → (y : X) × (either_of first other ≡ Some y)
first_found first other x e = (x, ap (λ o. either_of o other) e)

by_place : {X : Type 0} (find : ℕ → Option X) (n k : ℕ) (x : X) → k < suc n → find k ≡ Some x → (k < n → (y : X) × (found_below find n ≡ Some y)) → (k < n) ⊎ (n ≤ k)
    → (y : X) × (either_of (find n) (found_below find n) ≡ Some y)
by_place find n k x h e later (inl low) = let found = later low in still_found (find n) (found_below find n) found.0 found.1
by_place find n k x h e later (inr high) = let same : n ≡ k = omega arith in first_found (find n) (found_below find n) x (ap find same ∙ e)

-- where something is found at a number below a bound, something is found below it
pub some_found : {X : Type 0} (find : ℕ → Option X) (n k : ℕ) (x : X) → k < n → find k ≡ Some x → (y : X) × (found_below find n ≡ Some y)
unfolding found_below
some_found find zero k x h e = absurd (omega arith)
some_found find (suc n) k x h e = by_place find n k x h e (λ low. some_found find n k x low e) (cases_lt k n)

-- the date that has a number is in the calendar
has_date : (day year month date : ℕ) → year < 10000 → has_number day year month date ≡ true → IsDayText (date_text year month date) day
has_date day year month date late test =
    let p = and_parts (((nat_le 1 month && nat_le month 12) && nat_le 1 date) && nat_le date (days_in_month (pos year) month)) (int_eq (days_from_civil (pos year) month date) (pos day)) test in
    let q = and_parts ((nat_le 1 month && nat_le month 12) && nat_le 1 date) (nat_le date (days_in_month (pos year) month)) p.0 in
    let r = and_parts (nat_le 1 month && nat_le month 12) (nat_le 1 date) q.0 in
    let s = and_parts (nat_le 1 month) (nat_le month 12) r.0 in
    let a = le_test 1 month s.0 in
    let b = le_test month 12 s.1 in
    let c = le_test 1 date r.1 in
    let d = le_test date (days_in_month (pos year) month) q.1 in
    record {
      year = year;
      month = month;
      date = date;
      is_date = ((omega (arith, ints), omega (arith, ints)), (omega (arith, ints), omega (arith, ints)), (omega (arith, ints), omega (arith, ints)));
      is_text = refl;
      is_number = (Decides-int_eq (days_from_civil (pos year) month date) (pos day)).0 p.1;
    }

-- a date of the calendar has its number
has_its_number : (day year month date : ℕ) → IsDate (pos year) (pos month) (pos date) → days_from_civil (pos year) month date ≡ pos day
    → has_number day year month date ≡ true
has_its_number day year month date is number =
    let a : 1 ≤ month = omega (arith, ints, is.1.0) in
    let b : month ≤ 12 = omega (arith, ints, is.1.1) in
    let c : 1 ≤ date = omega (arith, ints, is.2.0) in
    let d : date ≤ days_in_month (pos year) month = omega (arith, ints, is.2.1) in
    and_from _ _ (and_from _ _ (and_from _ _ (and_from _ _ (test_le 1 month a) (test_le month 12 b)) (test_le 1 date c)) (test_le date (days_in_month (pos year) month) d))
    ((Decides-int_eq (days_from_civil (pos year) month date) (pos day)).1 number)

text_of_if : (day year month date : ℕ) (text : List ℕ) → text_if day year month date ≡ Some text
    → (has_number day year month date ≡ true) × (date_text year month date ≡ text)
text_of_if day year month date text e = cond_some (has_number day year month date) (date_text year month date) text e

-- what is found among the dates is a text of the day
found_text : (day : ℕ) (text : List ℕ) → found_below (λ year. found_below (λ month. found_below (text_if day year month) 32) 13) 10000 ≡ Some text
    → IsDayText text day
found_text day text e =
    let year = found_at (λ year. found_below (λ month. found_below (text_if day year month) 32) 13) 10000 text e in
    let month = found_at (λ month. found_below (text_if day year.0 month) 32) 13 text year.2 in
    let date = found_at (text_if day year.0 month.0) 32 text month.2 in
    let test = text_of_if day year.0 month.0 date.0 text date.2 in
    subst (λ t. IsDayText t day) test.1 (has_date day year.0 month.0 date.0 year.1 test.0)

-- something is found where the day has a text
text_found : (day : ℕ) (text : List ℕ) → IsDayText text day
    → (found : List ℕ) × (found_below (λ year. found_below (λ month. found_below (text_if day year month) 32) 13) 10000 ≡ Some found)
text_found day text is =
    let test = has_its_number day is.year is.month is.date is.is_date is.is_number in
    let hit : text_if day is.year is.month is.date ≡ Some (date_text is.year is.month is.date) =
    ap (λ b. if b then Some (date_text is.year is.month is.date) else None) test in
    let low : is.month ≤ 12 = omega (arith, ints, is.is_date.1.1) in
    let few = days_in_month_bounds (pos is.year) is.month in
    let short : is.date ≤ days_in_month (pos is.year) is.month = omega (arith, ints, is.is_date.2.1) in
    let date = some_found (text_if day is.year is.month) 32 is.date (date_text is.year is.month is.date) (omega (arith, few, short)) hit in
    let month = some_found (λ month. found_below (text_if day is.year month) 32) 13 is.month date.0 (omega (arith, low)) date.1 in
    some_found (λ year. found_below (λ month. found_below (text_if day year month) 32) 13) 10000 is.year month.0 (omega (arith, ints, is.is_date.0.1)) month.1

-- the text of a day is the one that says it
pub text_of_day : (text : List ℕ) (day : ℕ) → IsDayText text day → text ≡ day_text day
unfolding day_text
text_of_day text day is =
    let found = text_found day text is in
    one_spelling text found.0 day is (found_text day found.0 found.1) ∙ sym (ap or_nothing found.1)

-- where a day has a text at all, its text says it
pub says_day : (text : List ℕ) (day : ℕ) → IsDayText text day → IsDayText (day_text day) day
says_day text day is = subst (λ t. IsDayText t day) (text_of_day text day is) is
