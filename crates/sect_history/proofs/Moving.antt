-- A move that is made, and what settling places, lead by leavings and enrolments.
use Rattle.std.specs.Prelude.{◌≡◌, ℕ, zero, suc, Bool, true, false, not, ◌==◌, List, [], ◌∷◌, length, filter, Option, Some, None, refl}
use Rattle.std.specs.List.{list_all}
use Rattle.std.specs.Option.{is_some, option_map_or}
use Rattle.std.proofs.Common.{sym, ap, subst}
use Rattle.sect_base.specs.declared.ids.StudentId.{StudentId}
use Rattle.sect_base.specs.declared.ids.CourseId.{CourseId}
use Rattle.sect_base.specs.declared.choice.Want.{Want}
use Rattle.sect_base.specs.declared.choice.Choice.{Choice}
use Rattle.sect_base.specs.declared.choice.Move.{Move}
use Rattle.sect_people.specs.Student.{Student, find_student}
use Rattle.sect_model.specs.declared.change.Change.TheVariants.{Enrol, Leave}
use Rattle.sect_model.specs.declared.held.Waiting.{Waiting}
use Rattle.sect_model.specs.World.{World, State, enrol, enrol_all, leave, leave_all, holds, is_in}
use Rattle.sect_model.specs.Allowed.{is_allowed}
use Rattle.sect_model.specs.Move.{are_allowed, is_allowed_move}
use Rattle.sect_model.specs.Settle.{make_move, move_of, placement_of, waiting_budget, choices_for, place, is_placeable, next_entry, settle, settle_by, settle_within}
use Rattle.sect_model.specs.Kept.{KeptWorld}
use Rattle.sect_model.proofs.FreerLemmas.{all-stay}
use Rattle.sect_model.proofs.KeptMoves.{found-allowed, move-students, first_entry-member}
use Rattle.sect_model.proofs.Members
use Rattle.sect_model.proofs.Members.{all-at, all-of, both-left, both-right, if_false, none-at, not_both}
use Rattle.sect_history.specs.Changes.{SeatsLead}
use Rattle.sect_history.proofs.Leading.{lead-known, seats-kept, seats-on, seats-one, stays}

-- ---- moves

-- leaving a course that isn't held changes nothing
leaves-none : (w : World) (student : StudentId) (course : CourseId) → holds w student course ≡ false → leave w student course ≡ w
leaves-none w student course none =
    ap (λ es. record w { roster = es }) (all-stay (λ x. not (is_in student course x)) w.roster (λ x m. if_false (is_in student course x) (none-at (is_in student course) w.roster none x m)))

leave-leads : (w : World) (student : StudentId) (course : CourseId) → KeptWorld w → SeatsLead w (leave w student course)
leave-leads w student course k = by_held (holds w student course) refl
  where
    by_held : (b : Bool) → holds w student course ≡ b → SeatsLead w (leave w student course)
    by_held true e = seats-one w (Leave student course) refl k e
    by_held false e = subst (SeatsLead w) (sym (leaves-none w student course e)) (stays w k)

leave_all-leads : (courses : List CourseId) (w : World) (student : StudentId) → KeptWorld w → SeatsLead w (leave_all w student courses)
leave_all-leads [] w student k = stays w k
leave_all-leads (c ∷ cs) w student k =
    let first = leave-leads w student c k in
    seats-on w (leave w student c) (leave_all (leave w student c) student cs) first (leave_all-leads cs (leave w student c) student (seats-kept w (leave w student c) first))

pub enrol-leads : (w : World) (student : StudentId) (want : Want) (choice : Choice) → is_some (find_student w.students student) ≡ true → is_allowed w student want choice ≡ true → KeptWorld w
    → SeatsLead w (enrol w student choice)
enrol-leads w student want choice known allowed k = seats-one w (Enrol (record { student = student; choice = choice })) refl k (known, want, allowed)

enrol_all-leads : (wants : List Want) (choices : List Choice) (w : World) (student : StudentId) → is_some (find_student w.students student) ≡ true
    → are_allowed w student wants choices ≡ true → KeptWorld w → SeatsLead w (enrol_all w student choices)
enrol_all-leads [] [] w student known h k = stays w k
enrol_all-leads [] (c ∷ cs) w student known h k = absurd (not_both false h refl)
enrol_all-leads (want ∷ wants) [] w student known h k = absurd (not_both false h refl)
enrol_all-leads (want ∷ wants) (c ∷ cs) w student known h k =
    let first = enrol-leads w student want c known (both-left _ (are_allowed (enrol w student c) student wants cs) h) k in
    seats-on w (enrol w student c) (enrol_all (enrol w student c) student cs) first
    (enrol_all-leads wants cs (enrol w student c) student known (both-right (is_allowed w student want c) _ h) (seats-kept w (enrol w student c) first))

-- an allowed move of a known student
pub move-leads : (w : World) (mv : Move) (choices : List Choice) → is_some (find_student w.students mv.student) ≡ true → is_allowed_move w mv choices ≡ true → KeptWorld w
    → SeatsLead w (make_move w mv choices)
move-leads w mv choices known h k =
    let gone : World = leave_all w mv.student mv.give in
    let first = leave_all-leads mv.give w mv.student k in
    seats-on w gone (make_move w mv choices) first
    (enrol_all-leads mv.take choices gone mv.student (lead-known first.seats w gone mv.student first.lead known) h (seats-kept w gone first))

-- ---- settling

placed-leads : (w : World) (mv : Move) (o : Option (List Choice)) → ((choices : List Choice) → o ≡ Some choices → is_allowed_move w mv choices ≡ true)
    → is_some (find_student w.students mv.student) ≡ true → KeptWorld w → SeatsLead w (make_move w mv (option_map_or (λ choices. choices) o []))
placed-leads w mv None h known k = leave_all-leads mv.give w mv.student k
placed-leads w mv (Some choices) h known k = move-leads w mv choices known (h choices refl) k

place-leads : (s : State) (e : Waiting) → is_some (find_student s.world.students e.student) ≡ true → KeptWorld s.world → SeatsLead s.world (place s e).world
place-leads s e known k =
    placed-leads s.world (move_of s.world e) (placement_of s.world e) (λ choices h. found-allowed s.world (move_of s.world e) waiting_budget choices h) known k

-- the entry is of one of the students
abbrev pub is_of_known : List Student → Waiting → Bool
is_of_known students e = is_some (find_student students e.student)

settle_within-leads : (n : ℕ) (s : State) → list_all (is_of_known s.world.students) s.entries ≡ true → KeptWorld s.world → SeatsLead s.world (settle_within n s).state.world
settle_within-leads zero s known k = stays s.world k
settle_within-leads (suc n) s known k = by_next (next_entry s) refl (λ e. settle_within-leads n (place s e))
  where
    left-known : (e : Waiting) → list_all (is_of_known (place s e).world.students) (place s e).entries ≡ true
    left-known e =
        subst (λ ss. list_all (is_of_known ss) (place s e).entries ≡ true) (sym (move-students s.world (move_of s.world e) (choices_for s.world e)))
        (all-of (is_of_known s.world.students) (place s e).entries (λ f m.
        all-at (is_of_known s.world.students) s.entries known f (Members.member-filter (λ x. not (x.ticket == e.ticket)) s.entries f m).0))

    by_next : (o : Option Waiting) → next_entry s ≡ o
        → ((e : Waiting) → list_all (is_of_known (place s e).world.students) (place s e).entries ≡ true → KeptWorld (place s e).world → SeatsLead (place s e).world (settle_within n (place s e)).state.world)
        → SeatsLead s.world (settle_by s (λ e. settle_within n (place s e)) o).state.world
    by_next None next ih = stays s.world k
    by_next (Some e) next ih =
        let m = (Members.member-filter (is_placeable s.world) s.entries e (first_entry-member (filter (is_placeable s.world) s.entries) e next)).0 in
        let first = place-leads s e (all-at (is_of_known s.world.students) s.entries known e m) k in
        seats-on s.world (place s e).world (settle_within n (place s e)).state.world first (ih e (left-known e) (seats-kept s.world (place s e).world first))

pub settle-leads : (s : State) → list_all (is_of_known s.world.students) s.entries ≡ true → KeptWorld s.world → SeatsLead s.world (settle s).state.world
unfolding settle
settle-leads s known k = settle_within-leads (length s.entries) s known k
