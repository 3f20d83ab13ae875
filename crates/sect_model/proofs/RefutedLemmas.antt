-- What is blocked is refuted.
use Rattle.std.specs.Prelude.{◌≡◌, ℕ, Bool, true, false, nat_lt, cond, List, [], ◌∷◌, find, Option, Some, None, refl, ◌==◌, ◌&&◌}
use Rattle.std.specs.List.{list_all, enumerate_from}
use Rattle.std.specs.Option.{is_some, option_map_or}
use Rattle.std.proofs.Common.{◌∙◌, ap, subst}
use Rattle.sect_base.specs.Tree.{Tree}
use Rattle.sect_people.specs.Student.{find_student}
use Rattle.sect_people.specs.declared.row.Ask.TheVariants.{Course as asks_course, Free}
use Rattle.sect_command.specs.declared.command.Command.{Command}
use Rattle.sect_command.specs.declared.command.Command.TheVariants.{Offering, Student as student_row, Requests, Reserve, Unreserve, Expire, Restrict, Unrestrict, SetLimit, Cancel, Enrol, Drop, Swap, Wait, Unwait, Batch}
use Rattle.sect_command.specs.declared.reply.Refusal.{Refusal}
use Rattle.sect_command.specs.declared.reply.Reply.{Reply}
use Rattle.sect_command.specs.declared.reply.Reply.TheVariants.{Amended, Enrolled, Dropped, Swapped, Waiting, Placed, Batched as batch_reply, Blocked, Spent, Refused}
use Rattle.sect_model.specs.Data.{Caller, StudentId, CourseId, Choice, Move, Ask, CourseAsk, Outcome, Placed as Placement}
use Rattle.sect_model.specs.declared.pick.Outcome.TheVariants.{Found, Blocked as blocked, Spent as spent}
use Rattle.sect_model.specs.World.{World, State, holds}
use Rattle.sect_model.specs.Covers.{covers}
use Rattle.sect_model.specs.Visits.{visits_of}
use Rattle.sect_model.specs.Outcome.{outcome_of, answer_of, first_allowed, refutation_of}
use Rattle.sect_model.specs.Settle.{Settled, settle}
use Rattle.sect_model.specs.Batch.{Batched, answer_to, add_line, batch_asks, asks_of, request_move, want_of, held_or, skipped_or, is_skipped, search_for, result_of}
use Rattle.sect_model.specs.Refusals.{refusal_of}
use Rattle.sect_model.specs.Stands.{MoveStands}
use Rattle.sect_model.specs.Premises.{WorldKeeps, MoveFits, courses_known, is_sized, want_fits}
use Rattle.sect_model.specs.Kept.{KeptWorld, KeptState}
use Rattle.sect_model.specs.Step.{act, moved, enrolled, enrol_move, refused_or, answered, on_day, reply_after, step}
use Rattle.sect_model.specs.Refuted.{Refuted, move_in, RefutedResult, RefutedAsks, RefutedBatch}
use Rattle.sect_model.specs.Laws.{BlockedRefutes, StepRefutes, BatchRefutes}
use Rattle.sect_model.proofs.Members.{all-at, all-of, both, both-left, both-right}
use Rattle.sect_model.proofs.MoveLaws.{cover_refutes, refutation_covers}
use Rattle.sect_model.proofs.StandLemmas.{stands}
use Rattle.sect_model.proofs.Accepted.{accepted-fits, few_given, few_taken}
use Rattle.sect_model.proofs.EnrolLeave.{some_same}
use Rattle.sect_model.proofs.BatchLemmas.{Goes, ask_fits, asks-fit, all-enumerate, line-goes, asks-go, ask-back}
use Rattle.sect_model.proofs.StepLemmas.{day-state}
use Rattle.sect_model.proofs.GrowLemmas.{same-grows, want-stays}

-- ---- a search

by-answer : (w : World) (mv : Move) → WorldKeeps w → MoveStands w mv → (n visits : ℕ) (tree : Tree) (o : Option (List Choice)) → first_allowed w mv ≡ o → answer_of w mv n o ≡ blocked tree visits → Refuted w mv tree
by-answer w mv keeps standing n visits tree (Some choices) e h = cc
by-answer w mv keeps standing n visits tree None e h =
    let same : refutation_of w mv ≡ tree = cc in
    let covered : covers w mv tree ≡ true = subst (λ t. covers w mv t ≡ true) same (refutation_covers w mv keeps standing e) in
    (covered, cover_refutes w mv keeps standing tree covered)

pub blocked-refutes : BlockedRefutes
unfolding outcome_of
blocked-refutes w mv budget visits tree keeps standing h = by_budget (nat_lt budget (visits_of w mv)) h
  where
    by_budget : (b : Bool) → cond b (spent budget) (answer_of w mv (visits_of w mv) (first_allowed w mv)) ≡ blocked tree visits → Refuted w mv tree
    by_budget true h = cc
    by_budget false h = by-answer w mv keeps standing (visits_of w mv) visits tree (first_allowed w mv) refl h

world-keeps : (w : World) → KeptWorld w → WorldKeeps w
world-keeps w k = record { checked = k.rows_pass; reservations_differ = k.reservations_differ }

-- ---- a step

before-settling : (reply : Reply) (r : Settled) (visits : ℕ) (tree : Tree) → reply_after reply r ≡ Blocked visits tree → reply ≡ Blocked visits tree
before-settling Amended r visits tree h = h
before-settling (Enrolled choice) r visits tree h = h
before-settling (Dropped course) r visits tree h = h
before-settling (Swapped choices) r visits tree h = h
before-settling (Waiting ticket) r visits tree h = by_found (find (λ p. p.ticket == ticket) r.placed) h
  where
    by_found : (o : Option Placement) → option_map_or (λ p. Placed ticket p.choice) o (Waiting ticket) ≡ Blocked visits tree → Waiting ticket ≡ Blocked visits tree
    by_found None h = h
    by_found (Some p) h = cc
before-settling (Placed ticket choice) r visits tree h = h
before-settling (batch_reply lines) r visits tree h = h
before-settling (Blocked n t) r visits tree h = h
before-settling (Spent budget) r visits tree h = h
before-settling (Refused refusal) r visits tree h = h

not-blocked : (choices : List Choice) (visits : ℕ) (tree : Tree) → enrolled choices ≡ Blocked visits tree → ⊥
not-blocked [] visits tree h = cc
not-blocked (c ∷ cs) visits tree h = cc

-- a move whose reply is blocked
moved-refuted : (s : State) (mv : Move) (budget : ℕ) (reply : List Choice → Reply) (visits : ℕ) (tree : Tree) → WorldKeeps s.world → MoveFits s.world mv
    → ((choices : List Choice) → reply choices ≡ Blocked visits tree → ⊥) → (o : Outcome) → outcome_of s.world mv budget ≡ o → (moved s mv reply o).reply ≡ Blocked visits tree → Refuted s.world mv tree
moved-refuted s mv budget reply visits tree keeps fits never (Found choices n) e h = absurd (never choices h)
moved-refuted s mv budget reply visits tree keeps fits never (blocked t n) e h =
    let same : t ≡ tree = cc in
    blocked-refutes s.world mv budget n tree keeps (stands s.world mv fits) (e ∙ ap (λ x. blocked x n) same)
moved-refuted s mv budget reply visits tree keeps fits never (spent n) e h = cc

-- the effect of a command whose reply is blocked
act-refuted : (s : State) (command : Command) (visits : ℕ) (tree : Tree) → WorldKeeps s.world → ((mv : Move) → move_in command ≡ Some mv → MoveFits s.world mv)
    → (act s command).reply ≡ Blocked visits tree → (mv : Move) × (move_in command ≡ Some mv) × Refuted s.world mv tree
act-refuted s (Offering row) visits tree keeps fits h = cc
act-refuted s (student_row row) visits tree keeps fits h = cc
act-refuted s (Requests student asks) visits tree keeps fits h = cc
act-refuted s (Reserve row) visits tree keeps fits h = cc
act-refuted s (Unreserve id) visits tree keeps fits h = cc
act-refuted s (Expire id expiry) visits tree keeps fits h = cc
act-refuted s (Restrict row) visits tree keeps fits h = cc
act-refuted s (Unrestrict id) visits tree keeps fits h = cc
act-refuted s (SetLimit level limit) visits tree keeps fits h = cc
act-refuted s (Cancel id) visits tree keeps fits h = cc
act-refuted s (Enrol student want budget) visits tree keeps fits h =
    let mv : Move = enrol_move student want in
    (mv, refl, moved-refuted s mv budget enrolled visits tree keeps (fits mv refl) (λ choices e. not-blocked choices visits tree e) (outcome_of s.world mv budget) refl h)
act-refuted s (Drop student course) visits tree keeps fits h = cc
act-refuted s (Swap student give take budget) visits tree keeps fits h =
    let mv : Move = record { student = student; give = give; take = take } in
    (mv, refl, moved-refuted s mv budget Swapped visits tree keeps (fits mv refl) (λ choices e. cc) (outcome_of s.world mv budget) refl h)
act-refuted s (Wait student want give class) visits tree keeps fits h = cc
act-refuted s (Unwait student ticket) visits tree keeps fits h = cc
act-refuted s (Batch students) visits tree keeps fits h = cc

-- the move of a command that isn't refused fits
move-fits : (s : State) (caller : Caller) (command : Command) → KeptWorld s.world → refusal_of s caller command ≡ None → (mv : Move) → move_in command ≡ Some mv → MoveFits s.world mv
move-fits s caller (Enrol student want budget) k none mv e = subst (MoveFits s.world) (some_same _ mv e) (accepted-fits s caller (Enrol student want budget) k none)
move-fits s caller (Swap student give take budget) k none mv e = subst (MoveFits s.world) (some_same _ mv e) (accepted-fits s caller (Swap student give take budget) k none)
move-fits s caller (Offering row) k none mv e = cc
move-fits s caller (student_row row) k none mv e = cc
move-fits s caller (Requests student asks) k none mv e = cc
move-fits s caller (Reserve row) k none mv e = cc
move-fits s caller (Unreserve id) k none mv e = cc
move-fits s caller (Expire id expiry) k none mv e = cc
move-fits s caller (Restrict row) k none mv e = cc
move-fits s caller (Unrestrict id) k none mv e = cc
move-fits s caller (SetLimit level limit) k none mv e = cc
move-fits s caller (Cancel id) k none mv e = cc
move-fits s caller (Drop student course) k none mv e = cc
move-fits s caller (Wait student want give class) k none mv e = cc
move-fits s caller (Unwait student ticket) k none mv e = cc
move-fits s caller (Batch students) k none mv e = cc

answered-refuted : (s : State) (caller : Caller) (command : Command) (visits : ℕ) (tree : Tree) → KeptState s → (answered s caller command).reply ≡ Blocked visits tree
    → (mv : Move) × (move_in command ≡ Some mv) × Refuted s.world mv tree
answered-refuted s caller command visits tree k h = by_refusal (refusal_of s caller command) refl h
  where
    by_refusal : (o : Option Refusal) → refusal_of s caller command ≡ o → (refused_or s (λ t. act t command) o).reply ≡ Blocked visits tree
        → (mv : Move) × (move_in command ≡ Some mv) × Refuted s.world mv tree
    by_refusal (Some refusal) e h = cc
    by_refusal None e h = act-refuted s command visits tree (world-keeps s.world k.world) (move-fits s caller command k.world e) h

pub step-refutes : StepRefutes
unfolding step
step-refutes s day caller command visits tree k h =
    let a = answered (on_day s day) caller command in
    answered-refuted (on_day s day) caller command visits tree (day-state s day k) (before-settling a.reply (settle a.state) visits tree h)

-- ---- a batch

request-fits : (w : World) (student : StudentId) (ask : CourseAsk) (rank : ℕ) → is_some (find_student w.students student) ≡ true → want_fits w (want_of ask 0) ≡ true → MoveFits w (request_move student ask rank)
request-fits w student ask rank known fits = record {
  student = known;
  courses = both (courses_known w (want_of ask rank)) true (both-left (courses_known w (want_of ask 0)) true (both-left _ (is_sized (want_of ask 0)) fits)) refl;
  sections = refl;
  held = refl;
  distinct = refl;
  few_given = few_given;
  few_taken = few_taken (want_of ask rank);
  sized = both (is_sized (want_of ask rank)) true (both-right (courses_known w (want_of ask 0) && true) (is_sized (want_of ask 0)) fits) refl;
}

-- a line that is blocked
line-refuted : (b : Batched) (student : StudentId) (rank : ℕ) (ask : CourseAsk) → WorldKeeps b.world → MoveFits b.world (request_move student ask rank)
    → RefutedResult b.world student ask rank (answer_to b student rank ask)
line-refuted b student rank ask keeps fits = by_held (find (holds b.world student) ask.courses)
  where
    mv : Move
    mv = request_move student ask rank

    by_outcome : (o : Outcome) → outcome_of b.world mv 2000 ≡ o → RefutedResult b.world student ask rank (result_of o)
    by_outcome (Found [] visits) e = tt
    by_outcome (Found (c ∷ cs) visits) e = tt
    by_outcome (blocked tree visits) e = blocked-refutes b.world mv 2000 visits tree keeps (stands b.world mv fits) e
    by_outcome (spent n) e = tt

    by_skip : (skip : Bool) → RefutedResult b.world student ask rank (skipped_or (λ _. search_for b.world student ask rank) skip)
    by_skip true = tt
    by_skip false = by_outcome (outcome_of b.world mv 2000) refl

    by_held : (o : Option CourseId) → RefutedResult b.world student ask rank (held_or (λ _. skipped_or (λ _. search_for b.world student ask rank) (is_skipped b student ask)) o)
    by_held None = by_skip (is_skipped b student ask)
    by_held (Some course) = tt

module _ (w : World) where
  asks-refuted : (asks : List (ℕ × Ask)) (b : Batched) (student : StudentId) → is_some (find_student w.students student) ≡ true → list_all (λ p. ask_fits w p.1) asks ≡ true → Goes w b → RefutedAsks b student asks
  asks-refuted [] b student known fits g = tt
  asks-refuted ((rank, Free pattern) ∷ asks) b student known fits g = asks-refuted asks b student known fits g
  asks-refuted ((rank, asks_course ask) ∷ asks) b student known fits g =
      let one = both-left (want_fits w (want_of ask 0)) (list_all (λ p. ask_fits w p.1) asks) fits in
      let rest = both-right (want_fits w (want_of ask 0)) (list_all (λ p. ask_fits w p.1) asks) fits in
      let grows = same-grows w b.world g.students g.rows in (
        line-refuted b student rank ask (world-keeps b.world g.world)
            (request-fits b.world student ask rank (grows.students student known) (want-stays w b.world grows (want_of ask 0) one)),
        asks-refuted asks (add_line b student rank ask (answer_to b student rank ask)) student known rest (line-goes w b student rank ask known one g),
      )

  students-refuted : (students : List StudentId) (b : Batched) → list_all (λ s. is_some (find_student w.students s)) students ≡ true → Goes w b → RefutedBatch b students
  students-refuted [] b known g = tt
  students-refuted (student ∷ students) b known g =
      let asks : List Ask = asks_of b.world student in
      let fits = all-enumerate (ask_fits w) 1 asks (all-of (ask_fits w) asks (λ a m. ask-back w b g a (all-at (ask_fits b.world) asks (asks-fit b.world g.world student) a m))) in (
        asks-refuted (enumerate_from 1 asks) b student (both-left _ _ known) fits g,
        students-refuted students (batch_asks b student (enumerate_from 1 asks)) (both-right (is_some (find_student w.students student)) _ known)
            (asks-go w (enumerate_from 1 asks) b student (both-left _ _ known) fits g),
      )

pub batch-refutes : BatchRefutes
batch-refutes w students k known =
    students-refuted w students (record { world = w; answered = [] }) known (record { world = k; students = refl; rows = refl; fit = refl })
