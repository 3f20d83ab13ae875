-- The weeks that a term's days meet are one run.
use Rattle.std.proofs.Common.{◌≡◌, ◌<◌, ◌≤◌, ◌+◌, ◌-◌, ◌/◌, ◌^◌, ℕ, Bool, true, false, ◌&&◌, Option, None, Some, ap, refl, sym, ◌∙◌, arith, nat_le}
use Rattle.std.specs.Prelude.{◌↔◌, IsTrue, IsSome, IfSome}
use Rattle.std.specs.Int.{bit_at}
use Rattle.std.proofs.lemmas.Bool.{and_parts}
use Rattle.std.proofs.lemmas.Bool.Decides.{nat_tests}
use Rattle.std.proofs.lemmas.Nat.Bits.{bit_at-lt, same_from_bits_below}
use Rattle.sect_base.specs.Pattern.{has_bit}
use Rattle.sect_base.specs.Weeks.{AreDaysOfTerm, MeetsWeek, week_range}
use Rattle.sect_base.proofs.BitLemmas.{has_bit-one}
use Rattle.sect_base.proofs.WeekLemmas.{meets_week, has_bit-week_range, week_range_sixty}
use Rattle.sect_words.specs.Reading.{only_where}
use Rattle.sect_words.specs.Times.{weeks_between}

-- both bits are set, or none is
one_bit : (a b k : ℕ) → (IsTrue (has_bit a k) → IsTrue (has_bit b k)) → (IsTrue (has_bit b k) → IsTrue (has_bit a k)) → bit_at a k ≡ bit_at b k
one_bit a b k there back =
    let p = has_bit-one a k in
    let q = has_bit-one b k in
    by (bit_at a k) (bit_at b k) (λ e. q.0 (there (p.1 e))) (λ e. p.0 (back (q.1 e))) (bit_at-lt a k) (bit_at-lt b k)
  where
    by : (x y : ℕ) → (x ≡ 1 → y ≡ 1) → (y ≡ 1 → x ≡ 1) → x < 2 → y < 2 → x ≡ y
    by x y f g low less = grind (arith, f, g)

-- the set of weeks that the days meet
weeks_are : (term first last weeks : ℕ) → AreDaysOfTerm term first last → weeks < 2 ^ 60
    → ((week : ℕ) → IsTrue (has_bit weeks week) ↔ MeetsWeek term first last week)
    → weeks ≡ week_range ((first - term) / 7) ((last - term) / 7)
weeks_are term first last weeks days sixty bits =
    let from : term + (first - term) ≡ first = omega (arith, days.begun) in
    let to : term + (last - term) ≡ last = omega (arith, days.begun, days.order) in
    let few : (last - term) / 7 < 60 = omega (arith, days.within) in
    same_from_bits_below 60 weeks (week_range ((first - term) / 7) ((last - term) / 7)) sixty (week_range_sixty ((first - term) / 7) ((last - term) / 7) few)
    (λ k small.
    let in_run = has_bit-week_range ((first - term) / 7) ((last - term) / 7) k in
    let met = meets_week term first last (first - term) (last - term) k from to days.order in
    one_bit weeks (week_range ((first - term) / 7) ((last - term) / 7)) k
    (λ h. in_run.1 (met.1 ((bits k).0 h)))
    (λ h. (bits k).1 (met.0 (in_run.0 h))))

test_days : (term first last : ℕ) → AreDaysOfTerm term first last → (nat_le term first && nat_le first last && nat_le last (term + 419)) ≡ true
test_days term first last d =
    let a : nat_le term first ≡ true = most term first d.begun in
    let b : nat_le first last ≡ true = most first last d.order in
    let c : nat_le last (term + 419) ≡ true = most last (term + 419) d.within in
    rw (a, b, c) refl
  where
    most : (x y : ℕ) → x ≤ y → nat_le x y ≡ true
    most x y h = grind (arith, nat_tests)

days_test : (term first last : ℕ) → (nat_le term first && nat_le first last && nat_le last (term + 419)) ≡ true → AreDaysOfTerm term first last
days_test term first last e =
    let a = and_parts (nat_le term first && nat_le first last) (nat_le last (term + 419)) e in
    let b = and_parts (nat_le term first) (nat_le first last) a.0 in
    record { begun = most term first b.0; order = most first last b.1; within = most last (term + 419) a.1 }
  where
    most : (x y : ℕ) → nat_le x y ≡ true → x ≤ y
    most x y h = grind (arith, nat_tests)

only_true : {A : Type 0} (test : Bool) (x : A) → test ≡ true → only_where test x ≡ Some x
only_true test x e = rw e refl

only_false : {A : Type 0} (test : Bool) (x : A) → (test ≡ true → ⊥) → ◌≡◌ {A = Option A} None (only_where test x)
only_false true x never = absurd (never refl)
only_false false x never = refl

-- what is answered for days of a term is their set of weeks
pub weeks_is : (term first last : ℕ) (r : Option ℕ) → (IsSome r ↔ AreDaysOfTerm term first last)
    → IfSome r (λ weeks. (week : ℕ) → IsTrue (has_bit weeks week) ↔ MeetsWeek term first last week)
    → IfSome r (λ weeks. weeks < 2 ^ 60) → r ≡ weeks_between term first last
weeks_is term first last None there bits sixty = only_false (nat_le term first && nat_le first last && nat_le last (term + 419)) _ (λ e. cc (there.1 (days_test term first last e)))
weeks_is term first last (Some weeks) there bits sixty =
    let days = there.0 refl in
    ap Some (weeks_are term first last weeks days sixty bits)
    ∙ sym (only_true (nat_le term first && nat_le first last && nat_le last (term + 419)) (week_range ((first - term) / 7) ((last - term) / 7)) (test_days term first last days))
