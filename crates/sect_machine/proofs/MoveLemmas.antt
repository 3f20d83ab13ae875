-- Giving up course by course, and taking choice by choice.
use Rattle.std.specs.Prelude.{◌≡◌, ℕ, Bool, true, false, not, ◌&&◌, ◌==◌, List, [], ◌∷◌, map, filter, refl}
use Rattle.std.specs.List.{list_all, list_any}
use Rattle.std.specs.Option.{is_some}
use Rattle.std.proofs.Common.{sym, ◌∙◌, ap, subst}
use Rattle.std.proofs.lemmas.Bool.{eqb-true}
use Rattle.sect_people.specs.Student.{find_student}
use Rattle.sect_people.specs.Order.{all_differ}
use Rattle.sect_model.specs.declared.change.Change.TheVariants.{Enrol}
use Rattle.sect_model.specs.Data.{StudentId, CourseId, Want, Choice}
use Rattle.sect_model.specs.declared.held.Enrolment.{Enrolment}
use Rattle.sect_model.specs.declared.pick.Outcome.TheVariants.{Found}
use Rattle.sect_model.specs.World.{World, enrol, enrol_all, leave, leave_all, holds, is_in}
use Rattle.sect_model.specs.Allowed.{is_allowed}
use Rattle.sect_model.specs.Move.{are_allowed}
use Rattle.sect_model.specs.Fits.{Fits}
use Rattle.sect_model.specs.Outcome.{outcome_of}
use Rattle.sect_model.specs.Settle.{found_in}
use Rattle.sect_model.specs.Step.{enrol_move}
use Rattle.sect_model.proofs.KeptMoves.{found-allowed}
use Rattle.sect_model.proofs.Members.{all-at, all-of, any-at, any-of, none-at, both-left, both-right, not_true, not_both, member-of_map, member-of_filter}

-- the courses that are left are held and differ, and giving them up leads where giving up all does
pub record LeavesOn (w v : World) (student : StudentId) (all rest : List CourseId) : Type 0 where
  pub led : leave_all v student rest ≡ leave_all w student all
  pub held : list_all (holds v student) rest ≡ true
  pub differ : all_differ (map (λ c. c.0) rest) ≡ true

and_false : (a b : Bool) → b ≡ false → a && b ≡ false
and_false true b h = h
and_false false b h = refl

-- an enrolment in another course stays
stays-in : (student : StudentId) (c d : CourseId) (e : Enrolment) → d.0 == c.0 ≡ false → is_in student d e ≡ true → not (is_in student c e) ≡ true
stays-in student c d e other is =
    let course : e.choice.course.0 ≡ d.0 = eqb-true e.choice.course.0 d.0 (both-right (e.student.0 == student.0) _ is) in
    ap not (and_false (e.student.0 == student.0) (e.choice.course.0 == c.0) (ap (λ n. n == c.0) course ∙ other))

still-held : (w : World) (student : StudentId) (c d : CourseId) → d.0 == c.0 ≡ false → holds w student d ≡ true → holds (leave w student c) student d ≡ true
still-held w student c d other h =
    let e = any-at (is_in student d) w.roster h in
    any-of (is_in student d) (filter (λ x. not (is_in student c x)) w.roster) e.0 (member-of_filter (λ x. not (is_in student c x)) w.roster e.0 e.1 (stays-in student c d e.0 other e.2)) e.2

all-still-held : (w : World) (student : StudentId) (c : CourseId) (rest : List CourseId) → list_any (λ m. m == c.0) (map (λ d. d.0) rest) ≡ false
    → list_all (holds w student) rest ≡ true → list_all (holds (leave w student c) student) rest ≡ true
all-still-held w student c rest others h =
    all-of (holds (leave w student c) student) rest (λ d m.
    still-held w student c d (none-at (λ n. n == c.0) (map (λ d. d.0) rest) others d.0 (member-of_map (λ d. d.0) rest d m)) (all-at (holds w student) rest h d m))

pub leaves-next : (w v : World) (student : StudentId) (all : List CourseId) (c : CourseId) (rest : List CourseId) → LeavesOn w v student all (c ∷ rest) → holds v student c ≡ true
leaves-next w v student all c rest l = both-left _ (list_all (holds v student) rest) l.held

pub leaves-more : (w v u : World) (student : StudentId) (all : List CourseId) (c : CourseId) (rest : List CourseId) → LeavesOn w v student all (c ∷ rest) → u ≡ leave v student c
    → LeavesOn w u student all rest
leaves-more w v u student all c rest l is = subst (λ x. LeavesOn w x student all rest) (sym is) (record {
  led = l.led;
  held = all-still-held v student c rest (not_true (list_any (λ m. m == c.0) (map (λ d. d.0) rest)) (both-left _ (all_differ (map (λ d. d.0) rest)) l.differ)) (both-right (holds v student c) _ l.held);
  differ = both-right (not (list_any (λ m. m == c.0) (map (λ d. d.0) rest))) _ l.differ;
})

-- the choices that are left are allowed, and taking them leads where taking all does
pub record TakesOn (w v : World) (student : StudentId) (all rest : List Choice) : Type 0 where
  pub led : enrol_all v student rest ≡ enrol_all w student all
  pub wants : List Want
  pub allowed : are_allowed v student wants rest ≡ true
  pub known : is_some (find_student v.students student) ≡ true

pub takes-next : (w v : World) (student : StudentId) (all : List Choice) (c : Choice) (rest : List Choice) → TakesOn w v student all (c ∷ rest)
    → Fits v (Enrol (record { student = student; choice = c }))
takes-next w v student all c rest t = by_wants t.wants t.allowed
  where
    by_wants : (wants : List Want) → are_allowed v student wants (c ∷ rest) ≡ true → Fits v (Enrol (record { student = student; choice = c }))
    by_wants [] h = absurd (not_both false h refl)
    by_wants (want ∷ wants) h = (t.known, want, both-left _ (are_allowed (enrol v student c) student wants rest) h)

pub takes-more : (w v u : World) (student : StudentId) (all : List Choice) (c : Choice) (rest : List Choice) → TakesOn w v student all (c ∷ rest) → u ≡ enrol v student c
    → TakesOn w u student all rest
takes-more w v u student all c rest t is = subst (λ x. TakesOn w x student all rest) (sym is) (by_wants t.wants t.allowed)
  where
    by_wants : (wants : List Want) → are_allowed v student wants (c ∷ rest) ≡ true → TakesOn w (enrol v student c) student all rest
    by_wants [] h = absurd (not_both false h refl)
    by_wants (want ∷ wants) h = record { led = t.led; wants = wants; allowed = both-right (is_allowed v student want c) _ h; known = t.known }

-- giving up changes no student
pub leave_all-students : (courses : List CourseId) (w : World) (student : StudentId) → (leave_all w student courses).students ≡ w.students
leave_all-students [] w student = refl
leave_all-students (c ∷ cs) w student = leave_all-students cs (leave w student c) student

-- what the search for an enrolment finds fits the world
pub one-fits : (w : World) (student : StudentId) (want : Want) (budget visits : ℕ) (choice : Choice) → is_some (find_student w.students student) ≡ true
    → outcome_of w (enrol_move student want) budget ≡ Found (choice ∷ []) visits → Fits w (Enrol (record { student = student; choice = choice }))
one-fits w student want budget visits choice known found = (
  known,
  want,
  both-left (is_allowed w student want choice) (are_allowed (enrol w student choice) student [] []) (found-allowed w (enrol_move student want) budget (choice ∷ []) (ap found_in found)),
)
