-- The credits of a student, and that they are few.
use Rattle.std.specs.Prelude.{◌≡◌, ℕ, ◌+◌, ◌≤◌, Bool, true, false, not, nat_le, cond, List, [], ◌∷◌, ◌++◌, length, map, filter, sum_by, Option, Some, None, ◌==◌, refl}
use Rattle.std.specs.Option.{is_some, option_map_or}
use Rattle.std.proofs.Common.{sym, ◌∙◌, ap, arith}
use Rattle.std.proofs.lemmas.Bool.{eqb-true}
use Rattle.std.proofs.lemmas.List.Sums.{sum_by-append, sum_by-cons}
use Rattle.sect_people.specs.Student.{find_student}
use Rattle.sect_model.specs.Data.{StudentId, CourseId, Choice, Student}
use Rattle.sect_model.specs.declared.held.Enrolment.{Enrolment}
use Rattle.sect_model.specs.World.{World, credits_of, held_by}
use Rattle.sect_model.specs.Allowed.{credits_held, max_credits}
use Rattle.sect_model.specs.GoodWorld.{GoodWorld}
use Rattle.sect_model.proofs.Members
use Rattle.sect_model.proofs.Members.{all-at, not_both}
use Rattle.sect_model.proofs.ListLemmas.{at_most}
use Rattle.sect_moment.specs.Moment.{is_given, enrolment}

sum-map : {X Y : Type 0} (f : X → Y) (g : Y → ℕ) (xs : List X) → sum_by g (map f xs) ≡ sum_by (λ x. g (f x)) xs
sum-map f g [] = refl
sum-map f g (x ∷ xs) = sum_by-cons g (f x) (map f xs) ∙ ap (λ n. g (f x) + n) (sum-map f g xs) ∙ sym (sum_by-cons (λ x. g (f x)) x xs)

sum-kept : {X : Type 0} (p : X → Bool) (f : X → ℕ) (xs : List X) → sum_by f (filter (λ x. not (p x)) xs) ≡ sum_by (λ x. cond (p x) 0 (f x)) xs
sum-kept p f [] = refl
sum-kept {X = X} p f (x ∷ xs) = by_test (p x) (sum-kept p f xs) ∙ sym (sum_by-cons (λ x. cond (p x) 0 (f x)) x xs)
  where
    by_test : (b : Bool) → sum_by f (filter (λ x. not (p x)) xs) ≡ sum_by (λ x. cond (p x) 0 (f x)) xs
        → sum_by f (cond (not b) (x ∷ filter (λ x. not (p x)) xs) (filter (λ x. not (p x)) xs)) ≡ cond b 0 (f x) + sum_by (λ x. cond (p x) 0 (f x)) xs
    by_test true ih = omega (arith, ih)
    by_test false ih = sum_by-cons f x (filter (λ x. not (p x)) xs) ∙ ap (λ n. f x + n) ih

sum-less : {X : Type 0} (p : X → Bool) (f : X → ℕ) (xs : List X) → sum_by (λ x. cond (p x) 0 (f x)) xs ≤ sum_by f xs
sum-less p f [] = omega arith
sum-less p f (x ∷ xs) = omega (arith, sum_by-cons (λ x. cond (p x) 0 (f x)) x xs, sum_by-cons f x xs, less (p x), sum-less p f xs)
  where
    less : (b : Bool) → cond b 0 (f x) ≤ f x
    less true = omega arith
    less false = omega arith

-- the credits of the enrolments that stay and of those made
pub sum-moved : (f : Choice → ℕ) (st : StudentId) (give : List CourseId) (held : List Enrolment) (done : List Choice)
    → sum_by (λ e. f e.choice) (filter (λ e. not (is_given give e.choice.course)) held ++ map (enrolment st) done)
    ≡ sum_by (λ e. cond (is_given give e.choice.course) 0 (f e.choice)) held + sum_by f done
sum-moved f st give held done =
    sum_by-append (λ e. f e.choice) (filter (λ e. not (is_given give e.choice.course)) held) (map (enrolment st) done)
    ∙ (λ i. sum-kept (λ e. is_given give e.choice.course) (λ e. f e.choice) held i + sum-map (enrolment st) (λ e. f e.choice) done i)

-- a known student's credits are at most the maximum
pub credits-few : (w : World) (st : StudentId) → GoodWorld w → is_some (find_student w.students st) ≡ true → credits_held w st ≤ max_credits w st
credits-few w st good known = by_found (find_student w.students st) refl known
  where
    same : (a b : StudentId) → a.0 ≡ b.0 → a ≡ b
    same a b e = λ i. record { 0 = e i }

    by_found : (o : Option Student) → find_student w.students st ≡ o → is_some o ≡ true → credits_held w st ≤ option_map_or (λ s. s.row.max_credits) o 0
    by_found None e k = absurd (not_both false k refl)
    by_found (Some s) e k =
        let m = Members.find-member (λ s. s.row.id.0 == st.0) w.students s e in
        at_most (credits_held w st) s.row.max_credits
        (ap (λ id. nat_le (credits_held w id) s.row.max_credits) (sym (same s.row.id st (eqb-true s.row.id.0 st.0 m.1)))
        ∙ all-at (λ s. nat_le (credits_held w s.row.id) s.row.max_credits) w.students good.credits s m.0)

-- so are those of what stays
pub kept-few : (w : World) (st : StudentId) (give : List CourseId) → GoodWorld w → is_some (find_student w.students st) ≡ true
    → sum_by (λ e. cond (is_given give e.choice.course) 0 (credits_of w e.choice.course)) (held_by w st) ≤ max_credits w st
kept-few w st give good known =
    omega (arith, sum-less (λ e. is_given give e.choice.course) (λ e. credits_of w e.choice.course) (held_by w st), credits-few w st good known)

-- where nothing is given up, they are the student's
pub none-leave : (w : World) (st : StudentId) (give : List CourseId) → (length give == 0) ≡ true
    → credits_held w st ≡ sum_by (λ e. cond (is_given give e.choice.course) 0 (credits_of w e.choice.course)) (held_by w st)
none-leave w st [] e = refl
none-leave w st (c ∷ cs) e = let z : length (c ∷ cs) ≡ 0 = eqb-true (length (c ∷ cs)) 0 e in absurd (omega (arith, z))
