-- Giving up all that a student holds leaves the world without the student's enrolments.
use Rattle.std.specs.Prelude.{◌≡◌, Bool, true, false, not, ◌&&◌, ◌||◌, ◌==◌, cond, List, [], ◌∷◌, map, filter, refl}
use Rattle.std.specs.List.{list_any}
use Rattle.std.proofs.Common.{◌∙◌, ap}
use Rattle.std.proofs.lemmas.Bool.{eq-eqb}
use Rattle.sect_model.specs.Data.{StudentId, CourseId}
use Rattle.sect_model.specs.declared.held.Enrolment.{Enrolment}
use Rattle.sect_model.specs.World.{World, held_by, is_in, leave, leave_all}
use Rattle.sect_model.proofs.Members.{Member, any-of, both, filter-same, member-of_filter, member-of_map, none-of}
use Rattle.sect_best.specs.Laws.{LeavesAll}

module _ (student : StudentId) where
  -- the enrolments that are left where the courses are given up
  abbrev left : List CourseId → List Enrolment → List Enrolment
  left [] es = es
  left (c ∷ cs) es = left cs (filter (λ e. not (is_in student c e)) es)

  leaves : (cs : List CourseId) (w : World) → leave_all w student cs ≡ record w { roster = left cs w.roster }
  leaves [] w = refl
  leaves (c ∷ cs) w = leaves cs (leave w student c)

  left-nil : (cs : List CourseId) → left cs [] ≡ []
  left-nil [] = refl
  left-nil (c ∷ cs) = left-nil cs

  -- an enrolment goes where it is in one of the courses
  left-more : (cs : List CourseId) (e : Enrolment) (es : List Enrolment)
      → left cs (e ∷ es) ≡ cond (list_any (λ c. is_in student c e) cs) (left cs es) (e ∷ left cs es)
  left-more [] e es = refl
  left-more (c ∷ cs) e es = by_test (is_in student c e) (left-more cs e)
    where
      by_test : (b : Bool) → ((fs : List Enrolment) → left cs (e ∷ fs) ≡ cond (list_any (λ c. is_in student c e) cs) (left cs fs) (e ∷ left cs fs))
          → left cs (cond (not b) (e ∷ filter (λ x. not (is_in student c x)) es) (filter (λ x. not (is_in student c x)) es))
          ≡ cond (b || list_any (λ c. is_in student c e) cs) (left cs (filter (λ x. not (is_in student c x)) es)) (e ∷ left cs (filter (λ x. not (is_in student c x)) es))
      by_test true later = refl
      by_test false later = later (filter (λ x. not (is_in student c x)) es)

  left-filter : (cs : List CourseId) (es : List Enrolment) → left cs es ≡ filter (λ e. not (list_any (λ c. is_in student c e) cs)) es
  left-filter cs [] = left-nil cs
  left-filter cs (e ∷ es) = left-more cs e es ∙ by_test (list_any (λ c. is_in student c e) cs) (left-filter cs es)
    where
      by_test : (b : Bool) → left cs es ≡ filter (λ x. not (list_any (λ c. is_in student c x) cs)) es
          → cond b (left cs es) (e ∷ left cs es)
          ≡ cond (not b) (e ∷ filter (λ x. not (list_any (λ c. is_in student c x) cs)) es) (filter (λ x. not (list_any (λ c. is_in student c x) cs)) es)
      by_test true h = h
      by_test false h = ap (λ xs. e ∷ xs) h

  -- an enrolment of the roster goes where it is the student's
  goes : (es : List Enrolment) (e : Enrolment) → Member es e
      → list_any (λ c. is_in student c e) (map (λ x. x.choice.course) (filter (λ x. x.student.0 == student.0) es)) ≡ (e.student.0 == student.0)
  goes es e m = by_student (e.student.0 == student.0) refl
    where
      courses : List CourseId
      courses = map (λ x. x.choice.course) (filter (λ x. x.student.0 == student.0) es)

      by_student : (b : Bool) → (e.student.0 == student.0) ≡ b → list_any (λ c. is_in student c e) courses ≡ b
      by_student true h =
          any-of (λ c. is_in student c e) courses e.choice.course
          (member-of_map (λ x. x.choice.course) (filter (λ x. x.student.0 == student.0) es) e (member-of_filter (λ x. x.student.0 == student.0) es e m h))
          (both (e.student.0 == student.0) (e.choice.course.0 == e.choice.course.0) h (eq-eqb e.choice.course.0 e.choice.course.0 refl))
      by_student false h = none-of (λ c. is_in student c e) courses (λ c n. ap (λ b. b && e.choice.course.0 == c.0) h)

pub leaves-all : LeavesAll
leaves-all w student =
    let courses = map (λ e. e.choice.course) (held_by w student) in
    leaves student courses w
    ∙ ap (λ (es : List Enrolment). record w { roster = es })
    (left-filter student courses w.roster
    ∙ filter-same (λ e. not (list_any (λ c. is_in student c e) courses)) (λ e. not (e.student.0 == student.0)) w.roster (λ e m. ap not (goes student w.roster e m)))
