-- The runs of a set of weeks, put together again, are the set.
use Rattle.std.specs.Prelude.{◌≡◌, ◌≢◌, ℕ, suc, zero, ◌+◌, ◌<◌, ◌≤◌, ◌^◌, ◌==◌, ◌⊎◌, ◌&&◌, ◌||◌, nat_le, nat_lt, bit_or, Bool, true, false, List, [], ◌∷◌, refl, if◌then◌else◌}
use Rattle.std.specs.Int.{bit_at}
use Rattle.std.proofs.Common.{sym, ap, ◌∙◌, subst, arith, inl, inr}
use Rattle.std.proofs.lemmas.Bool.{cases_lt, cases_eq}
use Rattle.std.proofs.lemmas.Bool.Decides.{nat_tests}
use Rattle.std.proofs.lemmas.Nat.Bits.{bit_at-lt, bit_at_above, bit_at_mask_inside, bit_at_mask_below, bit_at_mask_above, same_from_bits}
use Rattle.sect_base.specs.Pattern.{has_bit}
use Rattle.sect_base.specs.Weeks.{week_range}
use Rattle.sect_base.specs.WeekText.{Run, with_week, runs_from}
use Rattle.sect_base.proofs.BitLemmas.{has_bit-or, has_bit-zero}
use Rattle.sect_base.proofs.WeekRuns.{run, runs_from-set, runs_from-unset, runs_from-zero}

-- each run is one of the sixty weeks' in order
abbrev pub AreRuns : List Run → Type 0
AreRuns [] = Unit {0}
AreRuns (first ∷ more) = (first.first ≤ first.last) × (first.last < 60) × AreRuns more

with_week-good : (week : ℕ) (runs : List Run) → week < 60 → AreRuns runs → AreRuns (with_week week runs)
with_week-good week [] small good = (omega arith, small, tt)
with_week-good week (first ∷ more) small good = by_test (first.first == week + 1) refl
  where
    by_test : (b : Bool) → (first.first == week + 1) ≡ b → AreRuns (if b then run week first.last ∷ more else run week week ∷ first ∷ more)
    by_test true touches =
        let next : first.first ≡ week + 1 = grind (arith, nat_tests) in
        (omega (arith, next, good.0), good.1, good.2)
    by_test false apart = (omega arith, small, good)

pub runs_from-good : (left weeks week : ℕ) → week + left ≤ 60 → AreRuns (runs_from weeks week left)
runs_from-good zero weeks week all = subst AreRuns (sym (runs_from-zero weeks week)) tt
runs_from-good (suc left) weeks week all = by_bit (has_bit weeks week) refl (runs_from-good left weeks (week + 1) (omega (arith, all)))
  where
    by_bit : (b : Bool) → has_bit weeks week ≡ b → AreRuns (runs_from weeks (week + 1) left) → AreRuns (runs_from weeks week (suc left))
    by_bit true is good = subst AreRuns (sym (runs_from-set weeks week left is)) (with_week-good week (runs_from weeks (week + 1) left) (omega (arith, all)) good)
    by_bit false is good = subst AreRuns (sym (runs_from-unset weeks week left is)) good

-- whether the week is in one of the runs
abbrev pub in_runs : ℕ → List Run → Bool
in_runs week [] = false
in_runs week (first ∷ more) = (nat_le first.first week && nat_le week first.last) || in_runs week more

alone : (k week : ℕ) (rest : Bool) → ((nat_le week k && nat_le k week) || rest) ≡ (k == week || rest)
alone k week rest = grind (arith, nat_tests)

joined : (k week first last : ℕ) (rest : Bool) → first ≡ week + 1 → first ≤ last
    → ((nat_le week k && nat_le k last) || rest) ≡ (k == week || ((nat_le first k && nat_le k last) || rest))
joined k week first last rest next order = grind (arith, nat_tests)

in_runs-with_week : (k week : ℕ) (runs : List Run) → AreRuns runs → in_runs k (with_week week runs) ≡ (k == week || in_runs k runs)
in_runs-with_week k week [] good = alone k week false
in_runs-with_week k week (first ∷ more) good = by_test (first.first == week + 1) refl
  where
    by_test : (b : Bool) → (first.first == week + 1) ≡ b
        → in_runs k (if b then run week first.last ∷ more else run week week ∷ first ∷ more) ≡ (k == week || in_runs k (first ∷ more))
    by_test true touches = joined k week first.first first.last (in_runs k more) (grind (arith, nat_tests)) good.0
    by_test false apart = alone k week (in_runs k (first ∷ more))

none_yet : (k week : ℕ) (b : Bool) → false ≡ (b && (nat_le week k && nat_lt k (week + 0)))
none_yet k week b = grind (arith, nat_tests)

with_set : (k week left : ℕ) (b : Bool) → (k ≡ week → b ≡ true)
    → (k == week || (b && (nat_le (week + 1) k && nat_lt k (week + 1 + left)))) ≡ (b && (nat_le week k && nat_lt k (week + suc left)))
with_set k week left b set = by_place (cases_eq k week)
  where
    by_place : (k ≡ week) ⊎ (k ≢ week)
        → (k == week || (b && (nat_le (week + 1) k && nat_lt k (week + 1 + left)))) ≡ (b && (nat_le week k && nat_lt k (week + suc left)))
    by_place (inl same) = let is : b ≡ true = set same in grind (arith, nat_tests)
    by_place (inr other) = grind (arith, nat_tests)

without : (k week left : ℕ) (b : Bool) → (k ≡ week → b ≡ false)
    → (b && (nat_le (week + 1) k && nat_lt k (week + 1 + left))) ≡ (b && (nat_le week k && nat_lt k (week + suc left)))
without k week left b unset = by_place (cases_eq k week)
  where
    by_place : (k ≡ week) ⊎ (k ≢ week)
        → (b && (nat_le (week + 1) k && nat_lt k (week + 1 + left))) ≡ (b && (nat_le week k && nat_lt k (week + suc left)))
    by_place (inl same) = let is : b ≡ false = unset same in grind (arith, nat_tests)
    by_place (inr other) = grind (arith, nat_tests)

in_runs-runs_from : (left weeks week k : ℕ) → week + left ≤ 60
    → in_runs k (runs_from weeks week left) ≡ (has_bit weeks k && (nat_le week k && nat_lt k (week + left)))
in_runs-runs_from zero weeks week k all = ap (in_runs k) (runs_from-zero weeks week) ∙ none_yet k week (has_bit weeks k)
in_runs-runs_from (suc left) weeks week k all = by_bit (has_bit weeks week) refl (in_runs-runs_from left weeks (week + 1) k (omega (arith, all)))
  where
    by_bit : (b : Bool) → has_bit weeks week ≡ b
        → in_runs k (runs_from weeks (week + 1) left) ≡ (has_bit weeks k && (nat_le (week + 1) k && nat_lt k (week + 1 + left)))
        → in_runs k (runs_from weeks week (suc left)) ≡ (has_bit weeks k && (nat_le week k && nat_lt k (week + suc left)))
    by_bit true is ih =
        ap (in_runs k) (runs_from-set weeks week left is)
        ∙ in_runs-with_week k week (runs_from weeks (week + 1) left) (runs_from-good left weeks (week + 1) (omega (arith, all)))
        ∙ ap (λ b. k == week || b) ih
        ∙ with_set k week left (has_bit weeks k) (λ same. ap (has_bit weeks) same ∙ is)
    by_bit false is ih =
        ap (in_runs k) (runs_from-unset weeks week left is) ∙ ih ∙ without k week left (has_bit weeks k) (λ same. ap (has_bit weeks) same ∙ is)

-- a set with the weeks of runs
abbrev pub union : ℕ → List Run → ℕ
union weeks [] = weeks
union weeks (first ∷ more) = union (bit_or weeks (week_range first.first first.last)) more

has_bit-range : (first last k : ℕ) → has_bit (week_range first last) k ≡ (nat_le first k && nat_le k last)
has_bit-range first last k = by_order (cases_lt k first) (cases_lt last k)
  where
    by_order : (k < first) ⊎ (first ≤ k) → (last < k) ⊎ (k ≤ last) → has_bit (week_range first last) k ≡ (nat_le first k && nat_le k last)
    by_order (inl low) second = grind (arith, nat_tests, bit_at_mask_below first (last + 1) k low)
    by_order (inr high) (inl past) = grind (arith, nat_tests, bit_at_mask_above first (last + 1) k (omega arith))
    by_order (inr high) (inr within) = grind (arith, nat_tests, bit_at_mask_inside first (last + 1) k high (omega arith))

or_assoc : (a b c : Bool) → ((a || b) || c) ≡ (a || (b || c))
or_assoc true b c = refl
or_assoc false b c = refl

or_false : (a : Bool) → a ≡ (a || false)
or_false true = refl
or_false false = refl

has_bit-union : (runs : List Run) (weeks k : ℕ) → has_bit (union weeks runs) k ≡ (has_bit weeks k || in_runs k runs)
has_bit-union [] weeks k = or_false (has_bit weeks k)
has_bit-union (first ∷ more) weeks k =
    has_bit-union more (bit_or weeks (week_range first.first first.last)) k
    ∙ ap (λ b. b || in_runs k more) (has_bit-or weeks (week_range first.first first.last) k ∙ ap (λ b. has_bit weeks k || b) (has_bit-range first.first first.last k))
    ∙ or_assoc (has_bit weeks k) (nat_le first.first k && nat_le k first.last) (in_runs k more)

bit_at-same : (a b k : ℕ) → has_bit a k ≡ has_bit b k → bit_at a k ≡ bit_at b k
bit_at-same a b k same = grind (arith, nat_tests, bit_at-lt a k, bit_at-lt b k)

within_sixty : (weeks k : ℕ) → weeks < 2 ^ 60 → (has_bit weeks k && (nat_le 0 k && nat_lt k (0 + 60))) ≡ has_bit weeks k
within_sixty weeks k small = by_order (cases_lt k 60)
  where
    by_order : (k < 60) ⊎ (60 ≤ k) → (has_bit weeks k && (nat_le 0 k && nat_lt k (0 + 60))) ≡ has_bit weeks k
    by_order (inl less) = grind (arith, nat_tests)
    by_order (inr more) = grind (arith, nat_tests, bit_at_above weeks 60 k small more)

-- the runs of a set together are the set
pub union-runs_from : (weeks : ℕ) → weeks < 2 ^ 60 → union 0 (runs_from weeks 0 60) ≡ weeks
union-runs_from weeks small = same_from_bits (union 0 (runs_from weeks 0 60)) weeks (λ k.
    bit_at-same (union 0 (runs_from weeks 0 60)) weeks k
    (has_bit-union (runs_from weeks 0 60) 0 k
    ∙ ap (λ b. b || in_runs k (runs_from weeks 0 60)) (has_bit-zero k)
    ∙ in_runs-runs_from 60 weeks 0 k (omega arith)
    ∙ within_sixty weeks k small))
