-- A student's one enrolment in a course, and its last.
use Rattle.std.specs.Prelude.{◌≡◌, ◌<◌, Bool, true, false, ◌||◌, ◌==◌, cond, List, [], ◌∷◌, length, filter, find, Some, refl}
use Rattle.std.specs.List.{list_any}
use Rattle.std.specs.Option.{option_map}
use Rattle.std.proofs.Common.{◌∙◌, ap, arith}
use Rattle.std.proofs.lemmas.Bool.{eqb-true}
use Rattle.sect_base.specs.declared.ids.StudentId.{StudentId}
use Rattle.sect_base.specs.declared.ids.CourseId.{CourseId}
use Rattle.sect_model.specs.declared.held.Enrolment.{Enrolment}
use Rattle.sect_model.specs.World.{is_in}
use Rattle.sect_model.proofs.Members.{both-left, known, not_both}
use Rattle.sect_model.proofs.ListLemmas.{any-find, found-passes}
use Rattle.sect_roster.proofs.PlaceLemmas.{one-any}

-- what is found of a student is the student's
pub own-student : (student : StudentId) (course : CourseId) (es : List Enrolment) (e : Enrolment) → find (is_in student course) es ≡ Some e → e.student.0 ≡ student.0
own-student student course es e f = eqb-true e.student.0 student.0 (both-left (e.student.0 == student.0) _ (found-passes (is_in student course) es e f))

-- where there is one, it is found, and is the student's
pub known-own : (student : StudentId) (course : CourseId) (es : List Enrolment) → length (filter (is_in student course) es) ≡ 1 → option_map (λ e. e.student.0) (find (is_in student course) es) ≡ Some student.0
known-own student course es one =
    let found = known (find (is_in student course) es) (any-find (is_in student course) es ∙ one-any (is_in student course) es one) in
    ap (option_map (λ e. e.student.0)) found.1 ∙ ap (λ n. Some n) (own-student student course es found.0 found.1)

-- where some pass, the number of those that do is above 0
pub some-pass : {X : Type 0} (p : X → Bool) (xs : List X) → list_any p xs ≡ true → 0 < length (filter p xs)
some-pass p [] h = absurd (not_both false h refl)
some-pass p (x ∷ xs) h = by_test (some-pass p xs) (p x) h
  where
    by_test : (list_any p xs ≡ true → 0 < length (filter p xs)) → (b : Bool) → b || list_any p xs ≡ true → 0 < length (cond b (x ∷ filter p xs) (filter p xs))
    by_test ih true h = omega arith
    by_test ih false h = ih h
