-- A student's requests are few.
use Rattle.std.specs.Prelude.{◌≡◌, Bool, true, false, ◌==◌, nat_lt, List, [], find, Option, Some, None, refl}
use Rattle.std.specs.Option.{option_or, option_map, option_map_or, is_none}
use Rattle.std.specs.Bool.{then_some}
use Rattle.std.proofs.Common.{◌≤◌, length, arith}
use Rattle.std.proofs.lemmas.Bool.Decides.{nat_tests}
use Rattle.sect_base.specs.declared.ids.StudentId.{StudentId}
use Rattle.sect_people.specs.declared.row.Ask.{Ask}
use Rattle.sect_people.specs.declared.row.RequestFault.TheVariants.{UnknownCourse, Twice, TooMany}
use Rattle.sect_people.specs.Fault.{fault_of, is_unknown, courses_of_all, repeated_after, first_bad_length}
use Rattle.sect_base.specs.Capped.{capped}
use Rattle.sect_base.specs.declared.ids.CourseId.{CourseId}
use Rattle.sect_people.specs.Student.{Student, find_student}
use Rattle.sect_model.specs.World.{World, course_ids}
use Rattle.sect_model.specs.Batch.{asks_of}
use Rattle.sect_model.specs.Kept.{KeptWorld, asks_pass}
use Rattle.sect_model.proofs.Members.{all-at, find-member, not_both}

third : {X : Type 0} (a b c : Option X) → is_none (option_or a (option_or b c)) ≡ true → is_none c ≡ true
third (Some x) b c h = absurd (not_both false h refl)
third None (Some x) c h = absurd (not_both false h refl)
third None None c h = h

passed-few : (asks : List Ask) (known : List CourseId) → is_none (fault_of asks known) ≡ true → length asks ≤ 20
passed-few asks known h =
    by_test (nat_lt 20 (length asks)) refl
    (third (option_map (λ c. UnknownCourse c.0) (find (is_unknown known) (courses_of_all asks))) (option_map Twice (repeated_after [] (courses_of_all asks)))
    (option_map (λ n. TooMany (capped n)) (option_or (then_some (nat_lt 20 (length asks)) (length asks)) (first_bad_length asks))) h)
  where
    by_test : (b : Bool) → nat_lt 20 (length asks) ≡ b → is_none (option_map (λ n. TooMany (capped n)) (option_or (then_some b (length asks)) (first_bad_length asks))) ≡ true → length asks ≤ 20
    by_test true t h = absurd (not_both false h refl)
    by_test false t h = grind (arith, nat_tests, t)

-- a known student has at most 20 requests, and another none
pub asks-few : (w : World) → KeptWorld w → (id : StudentId) → length (asks_of w id) ≤ 20
asks-few w k id = by_found (find_student w.students id) refl
  where
    by_found : (o : Option Student) → find_student w.students id ≡ o → length (option_map_or (λ s. s.asks) o []) ≤ 20
    by_found None e = omega arith
    by_found (Some s) e = passed-few s.asks (course_ids w) (all-at (asks_pass w) w.students k.asks_pass s (find-member (λ s. s.row.id.0 == id.0) w.students s e).0)
