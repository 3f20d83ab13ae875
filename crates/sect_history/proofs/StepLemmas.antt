-- Each step leads by changes that fit, and answers a batch by good lines.
use Rattle.std.specs.Prelude.{◌≡◌, ℕ, max, Bool, true, false, not, ◌==◌, cond, List, [], ◌∷◌, ◌++◌, map, find, Option, Some, None, refl, ◌⊎◌}
use Rattle.std.specs.List.{list_all}
use Rattle.std.specs.Option.{is_some, option_map_or, option_to_list}
use Rattle.std.proofs.Common.{sym, ap, subst, inl, inr, append_assoc}
use Rattle.sect_base.specs.declared.ids.SectionId.{SectionId}
use Rattle.sect_base.specs.declared.ids.StudentId.{StudentId}
use Rattle.sect_base.specs.declared.choice.Choice.{Choice}
use Rattle.sect_base.specs.declared.choice.Move.{Move}
use Rattle.sect_base.specs.declared.limit.Caller.{Caller}
use Rattle.sect_people.specs.Student.{find_student}
use Rattle.sect_catalog.specs.Catalogue.{is_cancelled}
use Rattle.sect_command.specs.declared.command.Command.{Command}
use Rattle.sect_command.specs.declared.command.Command.TheVariants.{Offering, Student as student_row, Requests, Reserve, Unreserve, Expire, Restrict, Unrestrict, SetLimit, Cancel, Enrol, Drop, Swap, Wait, Unwait, Batch}
use Rattle.sect_command.specs.declared.reply.Line.{Line}
use Rattle.sect_command.specs.declared.reply.Refusal.{Refusal}
use Rattle.sect_command.specs.declared.reply.Reply.{Reply}
use Rattle.sect_command.specs.declared.reply.Reply.TheVariants.{Amended, Enrolled, Dropped, Swapped, Waiting, Placed, Batched, Blocked, Spent, Refused}
use Rattle.sect_model.specs.declared.change.Change.{Change}
use Rattle.sect_model.specs.declared.change.Change.TheVariants.{Offering as new_offering, Student as new_student, Requests as new_requests, Reserve as new_reservation, Unreserve as gone_reservation, Expiry, Restrict as new_restriction, Unrestrict as gone_restriction, Cap as new_cap, Cancelled, Day, Leave}
use Rattle.sect_model.specs.declared.held.Placed.{Placed as Placement}
use Rattle.sect_model.specs.declared.pick.Outcome.{Outcome}
use Rattle.sect_model.specs.declared.pick.Outcome.TheVariants.{Found, Blocked as blocked, Spent as spent}
use Rattle.sect_model.specs.World.{World, State, leave}
use Rattle.sect_model.specs.Outcome.{outcome_of}
use Rattle.sect_model.specs.Change.{cancel, reservation_from, restriction_from}
use Rattle.sect_model.specs.Settle.{Settled, found_in, make_move, settle, without}
use Rattle.sect_model.specs.Batch.{Batched as Batching, Joined, batch_of, join, join_lines, want_of}
use Rattle.sect_model.specs.Refusals.{refusal_of}
use Rattle.sect_model.specs.Premises.{want_fits}
use Rattle.sect_model.specs.Kept.{KeptState}
use Rattle.sect_model.specs.Accepted.{CommandFits}
use Rattle.sect_model.specs.Fits.{Fits, changed}
use Rattle.sect_model.specs.Step.{act, answered, enrol_move, enrolled, in_world, moved, on_day, refused_or, reply_after, step}
use Rattle.sect_model.proofs.Accepted.{accepted-fits}
use Rattle.sect_model.proofs.BatchLemmas.{answered_fits}
use Rattle.sect_model.proofs.Easy.{all-one}
use Rattle.sect_model.proofs.GrowLemmas.{entry-known}
use Rattle.sect_model.proofs.KeptMoves.{found-allowed}
use Rattle.sect_model.proofs.Members
use Rattle.sect_model.proofs.Members.{all-at, all-of, both-left}
use Rattle.sect_model.proofs.StepLemmas.{day-state}
use Rattle.sect_history.specs.BatchLines.{AreGoodLines}
use Rattle.sect_history.specs.Changes.{Lead, SeatsLead, is_seating, own_change}
use Rattle.sect_history.specs.Laws.{LinesAreGood, StepsLead}
use Rattle.sect_history.proofs.Leading.{all-on, lead-kept, lead-known, lead-on, lead-one, may-change, seats-one, stays}
use Rattle.sect_history.proofs.Moving.{is_of_known, move-leads, settle-leads}
use Rattle.sect_history.proofs.BatchLemmas.{batch-good, good-lead, join_lines-good, join_lines-known}

-- ---- the effect of a command

-- it makes its own change or none, and enrolments and leavings follow; in the world behind it those who wait are known
record Acts (s : State) (command : Command) (t : State) : Type 0 where
  own : List Change
  is_own : (own ≡ []) ⊎ (own ≡ option_to_list (own_change s.world command))
  seats : List Change
  all : list_all is_seating seats ≡ true
  lead : Lead s.world (own ++ seats) t.world
  known : list_all (is_of_known t.world.students) t.entries ≡ true

waiting-known : (s : State) → KeptState s → list_all (is_of_known s.world.students) s.entries ≡ true
waiting-known s k = all-of (is_of_known s.world.students) s.entries (λ e m. entry-known s.world e (all-at _ s.entries k.entries_fit e m))

-- where those who wait are the same
same-known : (s : State) (changes : List Change) (v : World) → KeptState s → Lead s.world changes v → list_all (is_of_known v.students) s.entries ≡ true
same-known s changes v k lead =
    all-of (is_of_known v.students) s.entries (λ e m. lead-known changes s.world v e.student lead (all-at (is_of_known s.world.students) s.entries (waiting-known s k) e m))

acts-own : (s : State) (command : Command) (change : Change) → own_change s.world command ≡ Some change → KeptState s → Fits s.world change → Acts s command (in_world s (changed s.world change))
acts-own s command change own k fits = record {
  own = change ∷ [];
  is_own = inr (ap option_to_list (sym own));
  seats = [];
  all = refl;
  lead = lead-one s.world change k.world fits;
  known = same-known s (change ∷ []) (changed s.world change) k (lead-one s.world change k.world fits);
}

acts-seats : (s : State) (command : Command) (t : State) → SeatsLead s.world t.world → list_all (is_of_known t.world.students) t.entries ≡ true → Acts s command t
acts-seats s command t l known = record { own = []; is_own = inl refl; seats = l.seats; all = l.all; lead = l.lead; known = known }

acts-world : (s : State) (command : Command) (v : World) → KeptState s → SeatsLead s.world v → Acts s command (in_world s v)
acts-world s command v k l = acts-seats s command (in_world s v) l (same-known s l.seats v k l.lead)

moved-acts : (s : State) (command : Command) (mv : Move) (budget : ℕ) (reply : List Choice → Reply) (o : Outcome) → outcome_of s.world mv budget ≡ o
    → is_some (find_student s.world.students mv.student) ≡ true → KeptState s → Acts s command (moved s mv reply o).state
moved-acts s command mv budget reply (Found choices visits) e known k =
    acts-world s command (make_move s.world mv choices) k (move-leads s.world mv choices known (found-allowed s.world mv budget choices (ap found_in e)) k.world)
moved-acts s command mv budget reply (blocked tree visits) e known k = acts-world s command s.world k (stays s.world k.world)
moved-acts s command mv budget reply (spent n) e known k = acts-world s command s.world k (stays s.world k.world)

cancel-acts : (s : State) (id : SectionId) → CommandFits s.world (Cancel id) → KeptState s → Acts s (Cancel id) (in_world s (cancel s.world id))
cancel-acts s id fits k = by_test (is_cancelled s.world.catalogue id) refl
  where
    by_test : (b : Bool) → is_cancelled s.world.catalogue id ≡ b → Acts s (Cancel id) (in_world s (cancel s.world id))
    by_test true e =
        subst (λ c. Acts s (Cancel id) (in_world s (record s.world { catalogue = record { rows = s.world.catalogue.rows; cancelled = c } }))) (λ i. cond (sym e i) s.world.catalogue.cancelled (s.world.catalogue.cancelled ++ id ∷ []))
        (acts-world s (Cancel id) s.world k (stays s.world k.world))
    by_test false e = acts-own s (Cancel id) (Cancelled id) refl k (fits e)

batch-acts : (s : State) (students : List StudentId) → CommandFits s.world (Batch students) → KeptState s → Acts s (Batch students) (act s (Batch students)).state
batch-acts s students fits k =
    let b : Batching = batch_of s.world students in
    let start : Joined = record { state = in_world s b.world; lines = [] } in
    let g = batch-good s.world students k.world fits in
    let led : SeatsLead s.world b.world = subst (SeatsLead s.world) g.world (good-lead (map (λ a. a.line) b.answered) s.world k.world g.good) in
    let known = all-of (λ a. is_some (find_student b.world.students a.line.student)) b.answered (λ a m.
    lead-known led.seats s.world b.world a.line.student led.lead (both-left _ (want_fits s.world (want_of a.ask 0)) (all-at (answered_fits s.world) b.answered g.goes.fit a m))) in
    let joined = join_lines-known b.world.students b.answered start known (same-known s led.seats b.world k led.lead) in
    let end : Joined = join_lines start b.answered in
    acts-seats s (Batch students) end.state (subst (SeatsLead s.world) (sym joined.world) led)
    (subst (λ u. list_all (is_of_known u.students) end.state.entries ≡ true) (sym joined.world) joined.known)

act-acts : (s : State) (command : Command) → CommandFits s.world command → KeptState s → Acts s command (act s command).state
act-acts s (Offering row) fits k = acts-own s (Offering row) (new_offering row) refl k fits
act-acts s (student_row row) fits k = acts-own s (student_row row) (new_student row) refl k fits
act-acts s (Requests student asks) fits k = acts-own s (Requests student asks) (new_requests student asks) refl k fits
act-acts s (Reserve row) fits k = acts-own s (Reserve row) (new_reservation (reservation_from s.world row)) refl k fits
act-acts s (Unreserve id) fits k = acts-own s (Unreserve id) (gone_reservation id) refl k fits
act-acts s (Expire id expiry) fits k = acts-own s (Expire id expiry) (Expiry id expiry) refl k fits
act-acts s (Restrict row) fits k = acts-own s (Restrict row) (new_restriction (restriction_from s.world row)) refl k fits
act-acts s (Unrestrict id) fits k = acts-own s (Unrestrict id) (gone_restriction id) refl k fits
act-acts s (SetLimit cap limit) fits k = acts-own s (SetLimit cap limit) (new_cap cap limit) refl k fits
act-acts s (Cancel id) fits k = cancel-acts s id fits k
act-acts s (Enrol student want budget) fits k =
    moved-acts s (Enrol student want budget) (enrol_move student want) budget enrolled (outcome_of s.world (enrol_move student want) budget) refl fits.student k
act-acts s (Drop student course) fits k =
    acts-world s (Drop student course) (leave s.world student course) k (seats-one s.world (Leave student course) refl k.world fits)
act-acts s (Swap student give take budget) fits k =
    let mv : Move = record { student = student; give = give; take = take } in
    moved-acts s (Swap student give take budget) mv budget Swapped (outcome_of s.world mv budget) refl fits.student k
act-acts s (Wait student want give class) fits k =
    acts-seats s (Wait student want give class) (join s student want give class) (stays s.world k.world)
    (all-one (is_of_known s.world.students) s.entries (record { ticket = s.next; student = student; want = want; give = give; class = class }) (waiting-known s k) fits.0)
act-acts s (Unwait student ticket) fits k =
    acts-seats s (Unwait student ticket) (record s { entries = without s.entries ticket }) (stays s.world k.world)
    (all-of (is_of_known s.world.students) (without s.entries ticket) (λ e m.
    all-at (is_of_known s.world.students) s.entries (waiting-known s k) e (Members.member-filter (λ e. not (e.ticket == ticket)) s.entries e m).0))
act-acts s (Batch students) fits k = batch-acts s students fits k

answered-acts : (s : State) (caller : Caller) (command : Command) → KeptState s → Acts s command (answered s caller command).state
answered-acts s caller command k = by_refusal (refusal_of s caller command) refl
  where
    by_refusal : (o : Option Refusal) → refusal_of s caller command ≡ o → Acts s command (refused_or s (λ t. act t command) o).state
    by_refusal (Some refusal) e = acts-world s command s.world k (stays s.world k.world)
    by_refusal None e = act-acts s command (accepted-fits s caller command k.world e) k

-- ---- the step

pub steps-lead : StepsLead
unfolding step
steps-lead s day caller command k =
    let t : State = on_day s day in
    let u : State = (answered t caller command).state in
    let a = answered-acts t caller command (day-state s day k) in
    let settled = settle-leads u a.known (lead-kept (a.own ++ a.seats) t.world u.world a.lead) in
    let v : World = (settle u).state.world in record {
      own = a.own;
      is_own = a.is_own;
      seats = a.seats ++ settled.seats;
      all = all-on a.seats settled.seats a.all settled.all;
      lead = (
        may-change s.world (Day (max s.world.day day)) k.world tt,
        subst (λ changes. Lead t.world changes v) (append_assoc a.own a.seats settled.seats) (lead-on (a.own ++ a.seats) settled.seats t.world u.world v a.lead settled.lead),
      );
    }

-- ---- the lines of a batch

before-settling : (reply : Reply) (r : Settled) (lines : List Line) → reply_after reply r ≡ Batched lines → reply ≡ Batched lines
before-settling Amended r lines h = h
before-settling (Enrolled choice) r lines h = h
before-settling (Dropped course) r lines h = h
before-settling (Swapped choices) r lines h = h
before-settling (Waiting ticket) r lines h = by_found (find (λ p. p.ticket == ticket) r.placed) h
  where
    by_found : (o : Option Placement) → option_map_or (λ p. Placed ticket p.choice) o (Waiting ticket) ≡ Batched lines → Waiting ticket ≡ Batched lines
    by_found None h = h
    by_found (Some p) h = cc
before-settling (Placed ticket choice) r lines h = h
before-settling (Batched told) r lines h = h
before-settling (Blocked visits tree) r lines h = h
before-settling (Spent budget) r lines h = h
before-settling (Refused refusal) r lines h = h

enrolled-none : (choices : List Choice) (lines : List Line) → enrolled choices ≡ Batched lines → ⊥
enrolled-none [] lines h = cc
enrolled-none (c ∷ cs) lines h = cc

-- a move is answered by no lines
moved-none : (s : State) (mv : Move) (reply : List Choice → Reply) (lines : List Line) → ((choices : List Choice) → reply choices ≡ Batched lines → ⊥) → (o : Outcome)
    → (moved s mv reply o).reply ≡ Batched lines → ⊥
moved-none s mv reply lines never (Found choices visits) h = never choices h
moved-none s mv reply lines never (blocked tree visits) h = cc
moved-none s mv reply lines never (spent budget) h = cc

batch-lines : (s : State) (students : List StudentId) (lines : List Line) → CommandFits s.world (Batch students) → KeptState s → (act s (Batch students)).reply ≡ Batched lines
    → AreGoodLines s.world lines
batch-lines s students lines fits k h =
    let b : Batching = batch_of s.world students in
    let g = batch-good s.world students k.world fits in
    let told : List Line = (join_lines (record { state = in_world s b.world; lines = [] }) b.answered).lines in
    let same : told ≡ lines = cc in
    subst (AreGoodLines s.world) same
    (join_lines-good b.answered s.world s.world (record { state = in_world s b.world; lines = [] }) k.world (record { good = tt; world = refl }) g.good)

act-lines : (s : State) (command : Command) (lines : List Line) → CommandFits s.world command → KeptState s → (act s command).reply ≡ Batched lines → AreGoodLines s.world lines
act-lines s (Offering row) lines fits k h = cc
act-lines s (student_row row) lines fits k h = cc
act-lines s (Requests student asks) lines fits k h = cc
act-lines s (Reserve row) lines fits k h = cc
act-lines s (Unreserve id) lines fits k h = cc
act-lines s (Expire id expiry) lines fits k h = cc
act-lines s (Restrict row) lines fits k h = cc
act-lines s (Unrestrict id) lines fits k h = cc
act-lines s (SetLimit cap limit) lines fits k h = cc
act-lines s (Cancel id) lines fits k h = cc
act-lines s (Enrol student want budget) lines fits k h =
    let mv : Move = enrol_move student want in
    absurd (moved-none s mv enrolled lines (λ choices e. enrolled-none choices lines e) (outcome_of s.world mv budget) h)
act-lines s (Drop student course) lines fits k h = cc
act-lines s (Swap student give take budget) lines fits k h =
    let mv : Move = record { student = student; give = give; take = take } in
    absurd (moved-none s mv Swapped lines (λ choices e. cc) (outcome_of s.world mv budget) h)
act-lines s (Wait student want give class) lines fits k h = cc
act-lines s (Unwait student ticket) lines fits k h = cc
act-lines s (Batch students) lines fits k h = batch-lines s students lines fits k h

answered-lines : (s : State) (caller : Caller) (command : Command) (lines : List Line) → KeptState s → (answered s caller command).reply ≡ Batched lines → AreGoodLines s.world lines
answered-lines s caller command lines k h = by_refusal (refusal_of s caller command) refl h
  where
    by_refusal : (o : Option Refusal) → refusal_of s caller command ≡ o → (refused_or s (λ t. act t command) o).reply ≡ Batched lines → AreGoodLines s.world lines
    by_refusal (Some refusal) e h = cc
    by_refusal None e h = act-lines s command lines (accepted-fits s caller command k.world e) k h

pub lines-good : LinesAreGood
unfolding step
lines-good s day caller command lines k h =
    let a = answered (on_day s day) caller command in
    answered-lines (on_day s day) caller command lines (day-state s day k) (before-settling a.reply (settle a.state) lines h)
