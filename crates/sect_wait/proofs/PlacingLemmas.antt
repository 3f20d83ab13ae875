-- A candidate's move is that of its entry.
use Rattle.std.specs.Prelude.{◌≡◌, true, List, [], ◌∷◌, ◌++◌, map, filter, Some, Result, Ok, Err, OnOk, OnErr, refl}
use Rattle.std.specs.List.{list_all}
use Rattle.std.specs.Option.{option_map_or, is_some}
use Rattle.std.proofs.Common.{sym, ◌∙◌, ap, subst}
use Rattle.sect_base.specs.declared.ids.StudentId.{StudentId}
use Rattle.sect_base.specs.declared.ids.CourseId.{CourseId}
use Rattle.sect_base.specs.declared.choice.Choice.{Choice}
use Rattle.sect_people.specs.Student.{find_student}
use Rattle.sect_model.specs.declared.held.Waiting.{Waiting}
use Rattle.sect_model.specs.declared.change.Change.{Change}
use Rattle.sect_model.specs.declared.change.Change.TheVariants.{Enrol}
use Rattle.sect_model.specs.World.{World, State, leave, leave_all}
use Rattle.sect_model.specs.Allowed.{is_allowed}
use Rattle.sect_model.specs.Fits.{Fits, changed}
use Rattle.sect_model.specs.Kept.{entry_fits}
use Rattle.sect_model.specs.Settle.{first_entry, is_placeable, placement_of, choices_for, move_of, make_move, place, placed_by, without}
use Rattle.sect_model.proofs.Members.{Member, all-at, member-filter, both-left}
use Rattle.sect_model.proofs.KeptMoves.{found-allowed, first_entry-member}
use Rattle.sect_model.proofs.GrowLemmas.{entry-known}
use Rattle.sect_space.specs.declared.back.Back.{Back}
use Rattle.sect_space.specs.Back.{back_of}
use Rattle.sect_space.specs.Undo.{Since}
use Rattle.sect_space.proofs.Steps.{since-none, since-more}
use Rattle.sect_wait.specs.declared.next.Candidate.{Candidate}
use Rattle.sect_wait.specs.Placing.{IsOf, IsBest, candidate_of, enrolment_of, given_up, moved, placed_of}

-- ---- what a change led to

pub made-since : {A E : Type 0} (w v : World) (bs cs : List Back) (change : Change) (r : Result A E) → Fits w change → OnOk r (v ≡ changed w change) → OnOk r (cs ≡ bs ++ back_of w change ∷ [])
    → OnErr r (v ≡ w) → OnErr r (cs ≡ bs) → Since w bs v cs
made-since w v bs cs change (Ok x) fits is recorded same unrecorded =
    subst (λ u. Since w bs u cs) (sym is) (subst (λ ds. Since w bs (changed w change) ds) (sym recorded) (since-more w w bs bs change (since-none w bs) fits))
made-since w v bs cs change (Err x) fits is recorded same unrecorded =
    subst (λ u. Since w bs u cs) (sym same) (subst (λ ds. Since w bs w ds) (sym unrecorded) (since-none w bs))

-- ---- the candidate of an entry

pub of-entry : (w : World) (e : Waiting) (c : Candidate) → IsOf w e c → candidate_of e c.choice ≡ c
of-entry w e c is = λ i. record { ticket = sym is.ticket i; class = sym is.class i; student = sym is.student i; give = sym is.give i; choice = c.choice }

leave_all-students : (courses : List CourseId) (w : World) (student : StudentId) → (leave_all w student courses).students ≡ w.students
leave_all-students [] w student = refl
leave_all-students (c ∷ cs) w student = leave_all-students cs (leave w student c) student

entry-choice-fits : (w : World) (e : Waiting) (choice : Choice) → entry_fits w e ≡ true → placement_of w e ≡ Some (choice ∷ []) → Fits (given_up w (candidate_of e choice)) (Enrol (enrolment_of (candidate_of e choice)))
entry-choice-fits w e choice fits found = (
  ap (λ ss. is_some (find_student ss e.student)) (leave_all-students (move_of w e).give w e.student) ∙ entry-known w e fits,
  e.want,
  both-left (is_allowed (leave_all w e.student (move_of w e).give) e.student e.want choice) true (found-allowed w (move_of w e) 2000 (choice ∷ []) found),
)

-- the entry of the best candidate is one of the list
pub best-member : (w : World) (es : List Waiting) (e : Waiting) → first_entry (filter (is_placeable w) es) ≡ Some e → Member es e
best-member w es e first = (member-filter (is_placeable w) es e (first_entry-member (filter (is_placeable w) es) e first)).0

-- the best candidate can be enrolled once its course is given up
pub best-fits : (w : World) (es : List Waiting) (c : Candidate) → list_all (entry_fits w) es ≡ true → IsBest w es (Some c) → Fits (given_up w c) (Enrol (enrolment_of c))
best-fits w es c fit best =
    subst (λ d. Fits (given_up w d) (Enrol (enrolment_of d))) (of-entry w best.0 c best.2)
    (entry-choice-fits w best.0 c.choice (all-at (entry_fits w) es fit best.0 (best-member w es best.0 best.1)) best.2.choice)

-- ---- its placement

choices-are : (w : World) (e : Waiting) (c : Candidate) → IsOf w e c → choices_for w e ≡ c.choice ∷ []
choices-are w e c is = ap (λ o. option_map_or (λ choices. choices) o []) is.choice

-- the state with the entry placed
pub placed-state : (s : State) (e : Waiting) (c : Candidate) → IsOf s.world e c → place s e ≡ record { world = moved s.world c; entries = without s.entries c.ticket; next = s.next }
placed-state s e c is =
    ap (λ choices. record s { world = make_move s.world (move_of s.world e) choices; entries = without s.entries e.ticket }) (choices-are s.world e c is)
    ∙ ap (λ d. record { world = moved s.world d; entries = without s.entries d.ticket; next = s.next }) (of-entry s.world e c is)

-- what it gives the student
pub placed-one : (w : World) (e : Waiting) (c : Candidate) → IsOf w e c → placed_by w e ≡ placed_of c ∷ []
placed-one w e c is =
    ap (λ choices. map (λ choice. record { ticket = e.ticket; student = e.student; choice = choice }) choices) (choices-are w e c is)
    ∙ ap (λ d. placed_of d ∷ []) (of-entry w e c is)
