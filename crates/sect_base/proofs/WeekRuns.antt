-- The maximal runs of a set of weeks, one after another.
use Rattle.std.specs.Prelude.{◌≡◌, ℕ, suc, zero, ◌+◌, ◌-◌, ◌<◌, ◌≤◌, ◌==◌, ◌⊎◌, Bool, true, false, List, [], ◌∷◌, if◌then◌else◌, refl}
use Rattle.std.proofs.Common.{sym, ap, ◌∙◌, subst, arith, inl, inr}
use Rattle.std.proofs.lemmas.Bool.{cases_lt, eq-eqb, ne_eqb}
use Rattle.sect_base.specs.Pattern.{has_bit}
use Rattle.sect_base.specs.WeekText.{Run, with_week, runs_from, IsFirstFrom, IsLastFrom}

abbrev pub run : ℕ → ℕ → Run
run first last = record { first = first; last = last }

pub runs_from-set : (weeks week left : ℕ) → has_bit weeks week ≡ true → runs_from weeks week (suc left) ≡ with_week week (runs_from weeks (week + 1) left)
unfolding runs_from
runs_from-set weeks week left set = ap (λ b. if b then with_week week (runs_from weeks (week + 1) left) else runs_from weeks (week + 1) left) set

pub runs_from-unset : (weeks week left : ℕ) → has_bit weeks week ≡ false → runs_from weeks week (suc left) ≡ runs_from weeks (week + 1) left
unfolding runs_from
runs_from-unset weeks week left unset = ap (λ b. if b then with_week week (runs_from weeks (week + 1) left) else runs_from weeks (week + 1) left) unset

pub runs_from-zero : (weeks week : ℕ) → runs_from weeks week 0 ≡ []
unfolding runs_from
runs_from-zero weeks week = refl

-- where no week is set, there is no run
pub runs_from-none : (left weeks week : ℕ) → ((k : ℕ) → week ≤ k → has_bit weeks k ≡ false) → runs_from weeks week left ≡ []
runs_from-none zero weeks week none = runs_from-zero weeks week
runs_from-none (suc left) weeks week none =
    runs_from-unset weeks week left (none week (omega arith)) ∙ runs_from-none left weeks (week + 1) (λ k past. none k (omega arith))

-- the first run doesn't begin before this week
abbrev IsLate : ℕ → List Run → Type 0
IsLate week [] = Unit {0}
IsLate week (first ∷ more) = week ≤ first.first

with_week-late : (week : ℕ) (runs : List Run) → IsLate week (with_week week runs)
with_week-late week [] = omega arith
with_week-late week (first ∷ more) =
    elim (first.first == week + 1) as (λ b. IsLate week (if b then run week first.last ∷ more else run week week ∷ first ∷ more)) [ true ↦ omega arith | false ↦ omega arith ]

later : (week : ℕ) (runs : List Run) → IsLate (week + 1) runs → IsLate week runs
later week [] late = tt
later week (first ∷ more) late = omega (arith, late)

runs_from-late : (left weeks week : ℕ) → IsLate week (runs_from weeks week left)
runs_from-late zero weeks week = subst (IsLate week) (sym (runs_from-zero weeks week)) tt
runs_from-late (suc left) weeks week = by_bit (has_bit weeks week) refl (runs_from-late left weeks (week + 1))
  where
    by_bit : (b : Bool) → has_bit weeks week ≡ b → IsLate (week + 1) (runs_from weeks (week + 1) left) → IsLate week (runs_from weeks week (suc left))
    by_bit true is late = subst (IsLate week) (sym (runs_from-set weeks week left is)) (with_week-late week (runs_from weeks (week + 1) left))
    by_bit false is late = subst (IsLate week) (sym (runs_from-unset weeks week left is)) (later week (runs_from weeks (week + 1) left) late)

-- a week that touches no run stands alone
with_week-apart : (week : ℕ) (runs : List Run) → IsLate (week + 2) runs → with_week week runs ≡ run week week ∷ runs
with_week-apart week [] late = refl
with_week-apart week (first ∷ more) late =
    ap (λ b. if b then run week first.last ∷ more else run week week ∷ first ∷ more) (ne_eqb first.first (week + 1) (λ same. omega (arith, same, late)))

-- a week that touches a run joins it
with_week-joined : (week last : ℕ) (more : List Run) → with_week week (run (week + 1) last ∷ more) ≡ run week last ∷ more
with_week-joined week last more =
    ap (λ b. if b then run week last ∷ more else run week week ∷ run (week + 1) last ∷ more) (eq-eqb (week + 1) (week + 1) refl)

-- the runs after a week that isn't set
runs_from-after : (left weeks week : ℕ) → week + left ≡ 60 → has_bit weeks week ≡ false → runs_from weeks week left ≡ runs_from weeks (week + 1) (60 - (week + 1))
runs_from-after zero weeks week all unset =
    let none : 60 - (week + 1) ≡ 0 = omega arith in
    runs_from-zero weeks week ∙ sym (ap (runs_from weeks (week + 1)) none ∙ runs_from-zero weeks (week + 1))
runs_from-after (suc left) weeks week all unset =
    let rest : left ≡ 60 - (week + 1) = omega arith in
    runs_from-unset weeks week left unset ∙ ap (runs_from weeks (week + 1)) rest

-- the first run, and those after it
pub runs_from-cons : (left weeks from first last : ℕ) → from + left ≡ 60 → IsFirstFrom weeks from first → IsLastFrom weeks first last
    → runs_from weeks from left ≡ run first last ∷ runs_from weeks (last + 2) (60 - (last + 2))
runs_from-cons zero weeks from first last all is ends = absurd (omega (arith, is.begins, ends.order, ends.ends))
runs_from-cons (suc left) weeks from first last all is ends =
    by_first (cases_lt from first) (cases_lt first last) (λ begins goes. runs_from-cons left weeks (from + 1) begins last (omega arith) goes)
  where
    rest : List Run
    rest = runs_from weeks (last + 2) (60 - (last + 2))

    by_first : (from < first) ⊎ (first ≤ from) → (first < last) ⊎ (last ≤ first)
        → ((begins : ℕ) → IsFirstFrom weeks (from + 1) begins → IsLastFrom weeks begins last → runs_from weeks (from + 1) left ≡ run begins last ∷ runs_from weeks (last + 2) (60 - (last + 2)))
        → runs_from weeks from (suc left) ≡ run first last ∷ runs_from weeks (last + 2) (60 - (last + 2))
    by_first (inl less) order ih =
        let after : IsFirstFrom weeks (from + 1) first = record { begins = omega arith; is_in = is.is_in; skipped = λ week past below. is.skipped week (omega arith) below } in
        runs_from-unset weeks from left (is.skipped from (omega arith) less) ∙ ih first after ends
    by_first (inr here) (inl less) ih =
        let same : first ≡ from = omega (arith, is.begins, here) in
        let begins : IsFirstFrom weeks (from + 1) (from + 1) = record {
          begins = omega arith;
          is_in = ends.within (from + 1) (omega (arith, same)) (omega (arith, same, less));
          skipped = λ week past below. absurd (omega (arith, past, below));
        } in
        let goes : IsLastFrom weeks (from + 1) last = record {
          order = omega (arith, same, less);
          ends = ends.ends;
          within = λ week past to. ends.within week (omega (arith, same, past)) to;
          after = ends.after;
        } in
        runs_from-set weeks from left (subst (λ k. has_bit weeks k ≡ true) same is.is_in)
        ∙ ap (with_week from) (ih (from + 1) begins goes)
        ∙ with_week-joined from last rest
        ∙ ap (λ k. run k last ∷ rest) (sym same)
    by_first (inr here) (inr alone) ih =
        let same : first ≡ from = omega (arith, is.begins, here) in
        let one : first ≡ last = omega (arith, ends.order, alone) in
        let next : from + 1 ≡ last + 1 = omega (arith, same, one) in
        let after : from + 1 + 1 ≡ last + 2 = omega (arith, same, one) in
        let far : last + 2 ≡ from + 2 = omega (arith, same, one) in
        runs_from-set weeks from left (subst (λ k. has_bit weeks k ≡ true) same is.is_in)
        ∙ ap (with_week from)
        (runs_from-after left weeks (from + 1) (omega (arith, all)) (subst (λ k. has_bit weeks k ≡ false) (sym next) ends.after)
        ∙ ap (λ k. runs_from weeks k (60 - k)) after)
        ∙ with_week-apart from rest (subst (λ k. IsLate k rest) far (runs_from-late (60 - (last + 2)) weeks (last + 2)))
        ∙ ap (λ k. run k k ∷ rest) (sym same)
        ∙ ap (λ k. run first k ∷ rest) one
