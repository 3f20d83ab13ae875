-- A choice is taken in the row of its student.
use Rattle.std.specs.Prelude.{◌≡◌, ℕ, ◌+◌, ◌<◌, ◌==◌, Bool, true, false, ◌||◌, ◌&&◌, cond, List, Option, Some, refl}
use Rattle.std.specs.Option.{is_some, option_map, option_map_or}
use Rattle.std.proofs.Common.{sym, ◌∙◌, ap, arith}
use Rattle.std.proofs.lemmas.Bool.{eqb-true}
use Rattle.sect_base.specs.Calendar.{is_set}
use Rattle.sect_catalog.specs.declared.row.OfferingRow.{OfferingRow}
use Rattle.sect_model.specs.declared.held.Enrolment.{Enrolment}
use Rattle.sect_weeks.specs.declared.weeks.Row.{Row}
use Rattle.sect_weeks.specs.declared.weeks.Weeks.{Weeks}
use Rattle.sect_weeks.specs.Credits.{course_credits}
use Rattle.sect_weeks.specs.Rows.{row_of}
use Rattle.sect_weeks.specs.Taken.{sections_take}
use Rattle.sect_weeks.specs.Enrolled.{TakesChoice, TakesMore}

or_false : (b : Bool) → b || false ≡ b
or_false true = refl
or_false false = refl

zero_plus : (n : ℕ) → n ≡ 0 + n
zero_plus n = omega arith

pub takes-from : (t u : Weeks) (rows : List OfferingRow) (e : Enrolment) (old new : Row) → row_of t e.student.0 ≡ Some old
    → ((q : ℕ) → row_of u q ≡ cond (e.student.0 == q) (Some new) (row_of t q)) → TakesChoice old new rows e.choice → TakesMore t u rows e
takes-from t u rows e old new found more k = record {
  taken = λ q day slot h. ap (taken_in day slot) (more q) ∙ by_taken q day slot h (e.student.0 == q) refl;
  credits = λ q. ap counted_in (more q) ∙ by_credits q (e.student.0 == q) refl;
  few = k.few;
  rows_stay = λ q. ap known_in (more q) ∙ by_rows q (e.student.0 == q) refl;
}
  where
    taken_in : ℕ → ℕ → Option Row → Bool
    taken_in day slot o = option_map_or (λ words. is_set words day slot) (option_map (λ r. r.calendar) o) false

    counted_in : Option Row → ℕ
    counted_in o = option_map_or (λ r. r.credits) o 0

    known_in : Option Row → Bool
    known_in o = is_some (option_map (λ r. r.calendar) o)

    here : (q : ℕ) → e.student.0 == q ≡ true → row_of t q ≡ Some old
    here q s = ap (λ n. row_of t n) (sym (eqb-true e.student.0 q s)) ∙ found

    by_taken : (q day slot : ℕ) → slot < 288 → (b : Bool) → e.student.0 == q ≡ b
        → taken_in day slot (cond b (Some new) (row_of t q)) ≡ (taken_in day slot (row_of t q) || b && sections_take rows e.choice.sections day slot)
    by_taken q day slot h true s = k.taken day slot h ∙ sym (ap (λ o. taken_in day slot o || sections_take rows e.choice.sections day slot) (here q s))
    by_taken q day slot h false s = sym (or_false (taken_in day slot (row_of t q)))

    by_credits : (q : ℕ) (b : Bool) → e.student.0 == q ≡ b → counted_in (cond b (Some new) (row_of t q)) ≡ cond b (course_credits rows e.choice.course) 0 + counted_in (row_of t q)
    by_credits q true s = k.credits ∙ sym (ap (λ o. course_credits rows e.choice.course + counted_in o) (here q s))
    by_credits q false s = zero_plus (counted_in (row_of t q))

    by_rows : (q : ℕ) (b : Bool) → e.student.0 == q ≡ b → known_in (cond b (Some new) (row_of t q)) ≡ known_in (row_of t q)
    by_rows q true s = sym (ap known_in (here q s))
    by_rows q false s = refl
