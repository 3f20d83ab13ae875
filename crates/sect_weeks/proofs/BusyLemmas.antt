-- One enrolment more, and when its student is in class.
use Rattle.std.specs.Prelude.{◌≡◌, ℕ, zero, suc, ◌+◌, ◌==◌, Bool, true, false, ◌&&◌, ◌||◌, cond, List, [], ◌∷◌, length, filter, refl}
use Rattle.std.specs.List.{list_any}
use Rattle.std.proofs.Common.{sym, ◌∙◌, ap, arith}
use Rattle.sect_base.specs.declared.ids.StudentId.{StudentId}
use Rattle.sect_model.specs.declared.held.Enrolment.{Enrolment}
use Rattle.sect_model.specs.World.{World}
use Rattle.sect_model.proofs.ListLemmas.{any-filter-both}
use Rattle.sect_numbers.specs.OneMore.{with_roster, IsMore}
use Rattle.sect_weeks.specs.Busy.{is_busy}
use Rattle.sect_weeks.specs.Taken.{sections_take}

-- whether a number isn't zero
abbrev some-of : ℕ → Bool
some-of zero = false
some-of (suc n) = true

-- one of the elements passes where they that pass are some
any-counted : {X : Type 0} (p : X → Bool) (xs : List X) → list_any p xs ≡ some-of (length (filter p xs))
any-counted p [] = refl
any-counted {X = X} p (x ∷ xs) = by_test (p x) (any-counted p xs)
  where
    by_test : (b : Bool) → list_any p xs ≡ some-of (length (filter p xs)) → b || list_any p xs ≡ some-of (length (cond b (x ∷ filter p xs) (filter p xs)))
    by_test true ih = refl
    by_test false ih = ih

more-some : (b : Bool) (n : ℕ) → some-of (cond b 1 0 + n) ≡ b || some-of n
more-some true n = let e : 1 + n ≡ suc n = omega arith in ap some-of e
more-some false n = let e : 0 + n ≡ n = omega arith in ap some-of e

-- with one more, one passes where this one does, or one did before
any-more-one : {X : Type 0} (p : X → Bool) (es more : List X) (e : X) → length (filter p more) ≡ cond (p e) 1 0 + length (filter p es) → list_any p more ≡ p e || list_any p es
any-more-one p es more e h =
    any-counted p more ∙ ap some-of h ∙ more-some (p e) (length (filter p es)) ∙ ap (λ b. p e || b) (sym (any-counted p es))

-- the student of one enrolment more is in class when its sections meet, and else when it was; the others when they were
pub busy-more : (w : World) (more : List Enrolment) (e : Enrolment) → IsMore w.roster more e → (id : StudentId) (day slot : ℕ)
    → is_busy (with_roster w more) id day slot ≡ (e.student.0 == id.0 && sections_take w.catalogue.rows e.choice.sections day slot) || is_busy w id day slot
busy-more w more e m id day slot =
    any-filter-both own takes more
    ∙ any-more-one (λ x. own x && takes x) w.roster more e (m.counts (λ x. own x && takes x))
    ∙ ap (λ b. own e && takes e || b) (sym (any-filter-both own takes w.roster))
  where
    own : Enrolment → Bool
    own x = x.student.0 == id.0

    takes : Enrolment → Bool
    takes x = sections_take w.catalogue.rows x.choice.sections day slot
