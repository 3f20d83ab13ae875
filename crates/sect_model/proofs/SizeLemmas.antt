-- A good world has few offerings, and so few enrolments.
use Rattle.std.specs.Prelude.{◌≡◌, ℕ, suc, ◌+◌, ◌*◌, ◌≤◌, Bool, true, false, not, ◌&&◌, ◌||◌, ◌==◌, nat_le, cond, List, [], ◌∷◌, length, filter, sum_by, refl, ◌⊎◌}
use Rattle.std.specs.List.{list_any, list_all}
use Rattle.std.specs.Option.{option_map_or}
use Rattle.std.proofs.Common.{sym, ◌∙◌, ap, subst, arith, inl, inr}
use Rattle.std.proofs.lemmas.Bool.{eqb-true, eq-eqb}
use Rattle.std.proofs.lemmas.Bool.Decides.{nat_tests}
use Rattle.std.proofs.lemmas.List.Sums.{sum_by-cons}
use Rattle.sect_people.specs.Student.{find_student}
use Rattle.sect_model.specs.Data.{Enrolment, Student, StudentId, OfferingRow, OfferingId}
use Rattle.sect_model.specs.World.{World, offering_of, is_of}
use Rattle.sect_model.specs.GoodWorld.{go_together, all_go_together}
use Rattle.sect_model.specs.Allowed.{clash}
use Rattle.sect_model.specs.Kept.{KeptWorld}
use Rattle.sect_model.proofs.Members
use Rattle.sect_model.proofs.Members.{Member, all-at, all-of, both, both-left, both-right, not_both, not_true, known-test, count-none}
use Rattle.sect_model.proofs.Easy.{sound}
use Rattle.sect_model.specs.Laws.{RosterIsSmall}
use Rattle.sect_model.proofs.RowLemmas.{rows-few}
use Rattle.sect_model.proofs.Standing.{standing}

-- ---- counting

one_more : (n s t : ℕ) → n ≤ s → s + 1 ≤ t → suc n ≤ t
one_more n s t h k = omega (arith, h, k)

-- a sum in which one summand grows by one, and none falls
grows-one : {Y : Type 0} (f g : Y → ℕ) (ys : List Y) → ((y : Y) → f y ≤ g y) → (y : Y) → Member ys y → f y + 1 ≤ g y → sum_by f ys + 1 ≤ sum_by g ys
grows-one f g [] more y m one = absurd m
grows-one {Y = Y} f g (z ∷ ys) more y m one = by_place (grows-one f g ys more y) m
  where
    no_less : (zs : List Y) → sum_by f zs ≤ sum_by g zs
    no_less [] = omega arith
    no_less (x ∷ xs) = omega (arith, sum_by-cons f x xs, sum_by-cons g x xs, more x, no_less xs)

    here : f z + 1 ≤ g z → sum_by f (z ∷ ys) + 1 ≤ sum_by g (z ∷ ys)
    here h = omega (arith, sum_by-cons f z ys, sum_by-cons g z ys, h, no_less ys)

    there : sum_by f ys + 1 ≤ sum_by g ys → sum_by f (z ∷ ys) + 1 ≤ sum_by g (z ∷ ys)
    there h = omega (arith, sum_by-cons f z ys, sum_by-cons g z ys, more z, h)

    by_place : (Member ys y → f y + 1 ≤ g y → sum_by f ys + 1 ≤ sum_by g ys) → (z ≡ y) ⊎ Member ys y → sum_by f (z ∷ ys) + 1 ≤ sum_by g (z ∷ ys)
    by_place ih (inl e) = here (subst (λ v. f v + 1 ≤ g v) (sym e) one)
    by_place ih (inr n) = there (ih n one)

-- where each element has its class, there are at most as many as in the classes together
pub at-most-classes : {X Y : Type 0} (in_class : Y → X → Bool) (ys : List Y) (xs : List X) → ((x : X) → Member xs x → (y : Y) × Member ys y × (in_class y x ≡ true))
    → length xs ≤ sum_by (λ y. length (filter (in_class y) xs)) ys
at-most-classes in_class ys [] class = omega arith
at-most-classes {X = X} {Y = Y} in_class ys (x ∷ xs) class =
    let c = class x (inl refl) in
    one_more (length xs) (sum_by (λ y. length (filter (in_class y) xs)) ys) (sum_by (λ y. length (filter (in_class y) (x ∷ xs))) ys)
    (at-most-classes in_class ys xs (λ z m. class z (inr m)))
    (grows-one (λ y. length (filter (in_class y) xs)) (λ y. length (filter (in_class y) (x ∷ xs))) ys (λ y. no_less (in_class y x) (filter (in_class y) xs)) c.0 c.1
    (one-longer (in_class c.0 x) (filter (in_class c.0) xs) c.2))
  where
    no_less : (b : Bool) (zs : List X) → length zs ≤ length (cond b (x ∷ zs) zs)
    no_less true zs = omega arith
    no_less false zs = omega arith

    one-longer : (b : Bool) (zs : List X) → b ≡ true → length zs + 1 ≤ length (cond b (x ∷ zs) zs)
    one-longer true zs h = omega arith
    one-longer false zs h = absurd (not_both false h refl)

-- a sum of summands that are at most k
pub sum-bound : {Y : Type 0} (f : Y → ℕ) (k : ℕ) (ys : List Y) → ((y : Y) → Member ys y → f y ≤ k) → sum_by f ys ≤ length ys * k
sum-bound f k [] few = omega arith
sum-bound f k (y ∷ ys) few = joined (f y) (sum_by f ys) (length ys) (few y (inl refl)) (sum-bound f k ys (λ z m. few z (inr m))) (sum_by-cons f y ys)
  where
    joined : (a s n : ℕ) → a ≤ k → s ≤ n * k → sum_by f (y ∷ ys) ≡ a + s → sum_by f (y ∷ ys) ≤ suc n * k
    joined a s n h i e = grind (arith, h, i, e)

-- ---- one enrolment of a student in an offering

module _ (w : World) where
  abbrev pub enrolled_in : StudentId → OfferingId → Enrolment → Bool
  enrolled_in student offering e = e.student.0 == student.0 && is_of w offering e.choice.course

  same-number : (a b c : ℕ) → a == c ≡ true → b == c ≡ true → a == b ≡ true
  same-number a b c h k = grind (arith, nat_tests, h, k)

  apart : (student : StudentId) (offering : OfferingId) (later e : Enrolment) → go_together w later e ≡ true → enrolled_in student offering e ≡ true → enrolled_in student offering later ≡ false
  apart student offering later e together here = by_test (enrolled_in student offering later) refl
    where
      conflict : enrolled_in student offering later ≡ true → ⊥
      conflict there =
          let one = known-test (λ o. o.id.0 == offering.0) (offering_of w e.choice.course) (both-right (e.student.0 == student.0) _ here) in
          let other = known-test (λ o. o.id.0 == offering.0) (offering_of w later.choice.course) (both-right (later.student.0 == student.0) _ there) in
          let same = same-number later.student.0 e.student.0 student.0 (both-left _ _ there) (both-left _ _ here) in
          let rest = subst (λ b. not b || not (clash w later.choice e.choice) && option_map_or (λ o. not (is_of w o.id e.choice.course)) (offering_of w later.choice.course) false ≡ true) same together in
          let different = sym (ap (λ x. option_map_or (λ o. not (is_of w o.id e.choice.course)) x false) other.1) ∙ both-right (not (clash w later.choice e.choice)) _ rest in
          let its = ap (λ x. option_map_or (λ o. o.id.0 == other.0.id.0) x false) one.1 ∙ same-number one.0.id.0 other.0.id.0 offering.0 one.2 other.2 in
          not_both (is_of w other.0.id e.choice.course) its (not_true _ different)

      by_test : (b : Bool) → enrolled_in student offering later ≡ b → b ≡ false
      by_test true h = absurd (conflict h)
      by_test false h = refl

  pub at-most-one : (student : StudentId) (offering : OfferingId) (es : List Enrolment) → all_go_together w es ≡ true → length (filter (enrolled_in student offering) es) ≤ 1
  at-most-one student offering [] h = omega arith
  at-most-one student offering (e ∷ es) h = by_test (enrolled_in student offering e) refl (at-most-one student offering es (both-right (list_all (λ later. go_together w later e) es) _ h))
    where
      by_test : (b : Bool) → enrolled_in student offering e ≡ b → length (filter (enrolled_in student offering) es) ≤ 1 → length (cond b (e ∷ filter (enrolled_in student offering) es) (filter (enrolled_in student offering) es)) ≤ 1
      by_test true t ih =
          no_more (length (filter (enrolled_in student offering) es))
          (count-none (enrolled_in student offering) es (λ later m. apart student offering later e (all-at (λ later. go_together w later e) es (both-left _ _ h) later m) t))
        where
          no_more : (n : ℕ) → n ≡ 0 → suc n ≤ 1
          no_more n e = omega (arith, e)
      by_test false t ih = ih

  -- the filters of a student and an offering, one after the other
  twice-filter : (p q : Enrolment → Bool) (es : List Enrolment) → filter q (filter p es) ≡ filter (λ e. p e && q e) es
  twice-filter p q [] = refl
  twice-filter p q (e ∷ es) = by_test (twice-filter p q es) (p e)
    where
      by_test : filter q (filter p es) ≡ filter (λ e. p e && q e) es → (b : Bool) → filter q (cond b (e ∷ filter p es) (filter p es)) ≡ cond (b && q e) (e ∷ filter (λ e. p e && q e) es) (filter (λ e. p e && q e) es)
      by_test ih true = ap (λ zs. cond (q e) (e ∷ zs) zs) ih
      by_test ih false = ih

  module _ (k : KeptWorld w) where
    abbrev held : StudentId → List Enrolment
    held student = filter (λ e. e.student.0 == student.0) w.roster

    -- each enrolment is in an offering of the catalogue
    in-offering : (e : Enrolment) → Member w.roster e → (o : OfferingRow) × Member w.catalogue.rows o × (is_of w o.id e.choice.course ≡ true)
    in-offering e m =
        let f = standing w e.choice (sound w k.good e m).well in (
          f.offering,
          (Members.find-member (λ o. list_any (λ c. c.id.0 == e.choice.course.0) o.courses) w.catalogue.rows f.offering f.is_its).0,
          ap (λ x. option_map_or (λ o. o.id.0 == f.offering.id.0) x false) f.is_its ∙ eq-eqb f.offering.id.0 f.offering.id.0 refl,
        )

    held-few : (student : StudentId) → length (held student) ≤ length w.catalogue.rows * 1
    held-few student =
        trans
        (at-most-classes (λ o e. is_of w o.id e.choice.course) w.catalogue.rows (held student) (λ e m. in-offering e (Members.member-filter (λ e. e.student.0 == student.0) w.roster e m).0))
        (sum-bound (λ o. length (filter (λ e. is_of w o.id e.choice.course) (held student))) 1 w.catalogue.rows
        (λ o m. subst (λ es. length es ≤ 1) (sym (twice-filter (λ e. e.student.0 == student.0) (λ e. is_of w o.id e.choice.course) w.roster)) (at-most-one student o.id w.roster k.good.together)))
      where
        trans : {a b c : ℕ} → a ≤ b → b ≤ c → a ≤ c
        trans h i = omega (arith, h, i)

    -- each enrolment is of a student
    of-student : (e : Enrolment) → Member w.roster e → (s : Student) × Member w.students s × (e.student.0 == s.row.id.0 ≡ true)
    of-student e m =
        let s = Members.known (find_student w.students e.student) (sound w k.good e m).known in
        let f = Members.find-member (λ s. s.row.id.0 == e.student.0) w.students s.0 s.1 in
        (s.0, f.0, eq-eqb e.student.0 s.0.row.id.0 (sym (eqb-true s.0.row.id.0 e.student.0 f.1)))

    pub roster-bound : length w.roster ≤ length w.students * (length w.catalogue.rows * 1)
    roster-bound =
        trans
        (at-most-classes (λ s e. e.student.0 == s.row.id.0) w.students w.roster of-student)
        (sum-bound (λ s. length (held s.row.id)) (length w.catalogue.rows * 1) w.students (λ s m. held-few s.row.id))
      where
        trans : {a b c : ℕ} → a ≤ b → b ≤ c → a ≤ c
        trans h i = omega (arith, h, i)

product : (n s o : ℕ) → n ≤ s * (o * 1) → s ≤ 50000 → o ≤ 20000 → n ≤ 1000000000
product n s o h i j = grind (arith, h, i, j)

within_bound : (n : ℕ) → nat_le n 50000 ≡ true → n ≤ 50000
within_bound n h = grind (arith, nat_tests, h)

pub roster-is-small : RosterIsSmall
roster-is-small w k =
    product (length w.roster) (length w.students) (length w.catalogue.rows) (roster-bound w k) (within_bound (length w.students) k.few_students) (rows-few w.catalogue.rows k.rows_pass)
