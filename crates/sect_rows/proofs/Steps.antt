-- A step of a command with a text gives a reply that has one, and leaves a state of whose parts each has one.
use Rattle.std.specs.Prelude.{◌≡◌, ℕ, zero, suc, ◌+◌, ◌≤◌, Bool, true, false, not, ◌==◌, nat_lt, cond, List, [], ◌∷◌, length, filter, find, Option, Some, None, refl}
use Rattle.std.specs.Bool.{then_some}
use Rattle.std.specs.Option.{is_none, option_map_or}
use Rattle.std.proofs.Common.{sym, ◌∙◌, ap, subst, arith}
use Rattle.std.proofs.lemmas.Bool.Decides.{nat_tests}
use Rattle.sect_base.specs.Capped.{capped}
use Rattle.sect_command.specs.declared.command.Command.{Command}
use Rattle.sect_command.specs.declared.command.Command.TheVariants.{Offering, Student as student_row, Requests, Reserve, Unreserve, Expire, Restrict, Unrestrict, SetLimit, Cancel, Enrol, Drop, Swap, Wait, Unwait, Batch}
use Rattle.sect_command.specs.declared.reply.Refusal.{Refusal}
use Rattle.sect_command.specs.declared.reply.Refusal.TheVariants.{NotYours, TooMany}
use Rattle.sect_command.specs.declared.reply.Reply.{Reply}
use Rattle.sect_command.specs.declared.reply.Reply.TheVariants.{Amended, Enrolled, Dropped, Swapped, Waiting, Placed, Batched, Blocked, Spent, Refused}
use Rattle.sect_model.specs.Data.{Caller, StudentId, Want, Choice, Move}
use Rattle.sect_model.specs.declared.pick.Outcome.{Outcome}
use Rattle.sect_model.specs.declared.held.Waiting.{Waiting as Entry}
use Rattle.sect_model.specs.declared.held.Placed.{Placed as Placement}
use Rattle.sect_model.specs.declared.pick.Outcome.TheVariants.{Found, Blocked as blocked, Spent as spent}
use Rattle.sect_model.specs.World.{World, State, leave_all}
use Rattle.sect_model.specs.Visits.{visits_of}
use Rattle.sect_model.specs.Outcome.{answer_of, first_allowed, outcome_of}
use Rattle.sect_model.specs.Settle.{Settled, found_in, make_move, move_of, placement_of, waiting_budget, is_placeable, next_entry, choices_for, place, placed_by, settle_by, settle_within, settle}
use Rattle.sect_model.specs.Change.{reservation_from}
use Rattle.sect_model.specs.Refusals.{refusal_of, first_of, conditions_of, too_many, is_yours, unknown_students}
use Rattle.sect_model.specs.Premises.{MoveFits}
use Rattle.sect_model.specs.Kept.{KeptState}
use Rattle.sect_model.specs.Accepted.{CommandFits}
use Rattle.sect_model.specs.Step.{Acted, act, moved, enrolled, enrol_move, in_world, refused_or, answered, on_day, reply_after, step}
use Rattle.sect_model.proofs.Members
use Rattle.sect_model.proofs.Members.{Member, not_both}
use Rattle.sect_model.proofs.Tests.{rows_in_size}
use Rattle.sect_model.proofs.CheckedLemmas.{checked-size}
use Rattle.sect_model.proofs.OfferingChange.{none-left, none-right}
use Rattle.sect_model.proofs.PathLemmas as paths
use Rattle.sect_model.proofs.KeptMoves.{found-allowed, first_entry-member}
use Rattle.sect_model.proofs.StandLemmas.{stands}
use Rattle.sect_model.proofs.Accepted.{accepted-fits}
use Rattle.sect_model.proofs.StepLemmas.{day-state, step-keeps}
use Rattle.sect_wire.specs.Fits.{FitsList, FitsOptional, FitsChoice, FitsWant, FitsRefusal, FitsReply, FitsCommand}
use Rattle.sect_rows.specs.States.{FitsWorld, FitsState, FitsWaiting}
use Rattle.sect_rows.specs.Laws.{StepFits}
use Rattle.sect_rows.proofs.Each.{each-at, each-append, each-filter, each-map, each-more, fits-found}
use Rattle.sect_rows.proofs.Worlds.{offering-fits, student-fits, asks-fit, reservation-fits, reservation-gone, expiry-fits, limit-fits, leave-fits, leave_all-fits, held-credits}
use Rattle.sect_rows.proofs.Choices.{WantsCourses, move-fits}
use Rattle.sect_rows.proofs.Leaves.{TakesWant, blocked-fits}
use Rattle.sect_rows.proofs.Refusals.{refusal-fits}
use Rattle.sect_rows.proofs.Batches.{more-state, join-fits, batch-fits}

-- ---- the moves

takes : (want : Want) → FitsWant want → TakesWant want
takes want h = (h.0, omega (arith, h.2.1))

-- the budget that is told as spent is the one given
spent-is : (w : World) (mv : Move) (budget n : ℕ) → outcome_of w mv budget ≡ spent n → budget ≡ n
unfolding outcome_of
spent-is w mv budget n e = by_budget (nat_lt budget (visits_of w mv)) e
  where
    by_answer : (v : ℕ) (o : Option (List Choice)) → answer_of w mv v o ≡ spent n → budget ≡ n
    by_answer v None h = cc
    by_answer v (Some choices) h = cc

    by_budget : (b : Bool) → cond b (spent budget) (answer_of w mv (visits_of w mv) (first_allowed w mv)) ≡ spent n → budget ≡ n
    by_budget true h = cc
    by_budget false h = by_answer (visits_of w mv) (first_allowed w mv) h

module _ (s : State) (most : ℕ) (k : KeptState s) (f : FitsState most s) where
  in-world : (w : World) → FitsWorld w → FitsState (most + 2000) (in_world s w)
  in-world w fw = let g = more-state most (most + 2000) s (omega arith) f in record { world = fw; entries = g.entries; next = g.next }

  moved-fits : (mv : Move) (budget : ℕ) (reply : List Choice → Reply) → ((choices : List Choice) → FitsList FitsChoice choices → FitsReply (reply choices)) → budget ≤ 20000
      → FitsList TakesWant mv.take → MoveFits s.world mv → (o : Outcome) → outcome_of s.world mv budget ≡ o
      → FitsState (most + 2000) (moved s mv reply o).state × FitsReply (moved s mv reply o).reply
  moved-fits mv budget reply told small wants fits (Found choices visits) e =
      let m =
      move-fits s.world mv choices f.world (checked-size s.world.catalogue.rows k.world.rows_pass) (each-more TakesWant WantsCourses mv.take (λ want h. h.0) wants)
      (found-allowed s.world mv budget choices (ap found_in e)) in
      (in-world (make_move s.world mv choices) m.1, told choices m.0)
  moved-fits mv budget reply told small wants fits (blocked tree visits) e = (
    in-world s.world f.world,
    blocked-fits s.world mv f.world (held-credits s.world mv.student f.world k.world.good fits.student) fits.few_taken wants budget visits tree small
        (record { checked = k.world.rows_pass; reservations_differ = k.world.reservations_differ }) (stands s.world mv fits) e,
  )
  moved-fits mv budget reply told small wants fits (spent n) e = (in-world s.world f.world, omega (arith, small, spent-is s.world mv budget n e))

  told-one : (choices : List Choice) → FitsList FitsChoice choices → FitsReply (enrolled choices)
  told-one [] h = tt
  told-one (c ∷ cs) h = h.0

  -- ---- the effect of a command

  act-fits : (command : Command) → most + 2000 ≤ 18446744073709551615 → FitsCommand command → CommandFits s.world command → ((students : List StudentId) → command ≡ Batch students → length students ≤ 100)
      → FitsState (most + 2000) (act s command).state × FitsReply (act s command).reply
  act-fits (Offering row) small h fits few = (in-world _ (offering-fits s.world f.world row h), tt)
  act-fits (student_row row) small h fits few = (in-world _ (student-fits s.world f.world row h), tt)
  act-fits (Requests student asks) small h fits few = (in-world _ (asks-fit s.world f.world student asks h.1), tt)
  act-fits (Reserve row) small h fits few = (in-world _ (reservation-fits s.world f.world (reservation_from s.world row) h.0), tt)
  act-fits (Unreserve id) small h fits few = (in-world _ (reservation-gone s.world f.world id), tt)
  act-fits (Expire id expiry) small h fits few = (in-world _ (expiry-fits s.world f.world id expiry), tt)
  act-fits (Restrict row) small h fits few = (in-world _ (record { offerings = f.world.offerings; students = f.world.students; reservations = f.world.reservations; roster = f.world.roster }), tt)
  act-fits (Unrestrict id) small h fits few = (in-world _ (record { offerings = f.world.offerings; students = f.world.students; reservations = f.world.reservations; roster = f.world.roster }), tt)
  act-fits (SetLimit cap limit) small h fits few = (in-world _ (limit-fits s.world f.world cap limit h.1), tt)
  act-fits (Cancel id) small h fits few = (in-world _ (record { offerings = f.world.offerings; students = f.world.students; reservations = f.world.reservations; roster = f.world.roster }), tt)
  act-fits (Enrol student want budget) small h fits few =
      moved-fits (enrol_move student want) budget enrolled told-one h.2.1 (takes want h.1, tt) fits (outcome_of s.world (enrol_move student want) budget) refl
  act-fits (Drop student course) small h fits few = (in-world _ (leave-fits s.world f.world student course), h.1)
  act-fits (Swap student give take budget) small h fits few =
      let mv : Move = record { student = student; give = give; take = take } in
      moved-fits mv budget Swapped (λ choices h. h) h.3.1 (each-more FitsWant TakesWant take takes h.2) fits (outcome_of s.world mv budget) refl
  act-fits (Wait student want give class) small h fits few = (more-state (most + 1) (most + 2000) _ (omega arith) (join-fits most s student want give class h.1.0 f), omega (arith, f.next, small))
  act-fits (Unwait student ticket) small h fits few =
      let g = more-state most (most + 2000) s (omega arith) f in
      (record { world = f.world; entries = each-filter (FitsWaiting (most + 2000)) (λ e. not (e.ticket == ticket)) s.entries g.entries; next = g.next }, tt)
  act-fits (Batch students) small h fits few = batch-fits s most students k.world f small fits h (few students refl)

-- at most 100 students in a batch that isn't refused
few-students : (s : State) (caller : Caller) (command : Command) → refusal_of s caller command ≡ None → (students : List StudentId) → command ≡ Batch students → length students ≤ 100
unfolding refusal_of
few-students s caller command h students e = by_test (nat_lt 100 (length students)) refl third
  where
    whole : is_none (first_of (then_some (not (is_yours caller (Batch students))) NotYours ∷ conditions_of s (Batch students))) ≡ true
    whole = subst (λ c. is_none (first_of (then_some (not (is_yours caller c)) NotYours ∷ conditions_of s c)) ≡ true) e (ap is_none h)

    second : is_none (first_of (conditions_of s (Batch students))) ≡ true
    second = none-right (then_some (not (is_yours caller (Batch students))) NotYours) (first_of (conditions_of s (Batch students))) whole

    third : is_none (then_some (nat_lt 100 (length students)) (TooMany (capped (length students)))) ≡ true
    third = none-left (too_many 100 (length students)) _ (none-right (unknown_students s.world students) _ second)

    within : nat_lt 100 (length students) ≡ false → length students ≤ 100
    within e = grind (arith, nat_tests, e)

    by_test : (b : Bool) → nat_lt 100 (length students) ≡ b → is_none (then_some b (TooMany (capped (length students)))) ≡ true → length students ≤ 100
    by_test true e h = absurd (not_both false h refl)
    by_test false e h = within e

answered-fits : (s : State) (most : ℕ) → KeptState s → FitsState most s → most + 2000 ≤ 18446744073709551615 → (caller : Caller) (command : Command) → FitsCommand command
    → FitsState (most + 2000) (answered s caller command).state × FitsReply (answered s caller command).reply
answered-fits s most k f small caller command h = by_refusal (refusal_of s caller command) refl (refusal-fits s most f (omega (arith, small)) caller command h)
  where
    by_refusal : (o : Option Refusal) → refusal_of s caller command ≡ o → FitsOptional FitsRefusal o
        → FitsState (most + 2000) (refused_or s (λ t. act t command) o).state × FitsReply (refused_or s (λ t. act t command) o).reply
    by_refusal (Some refusal) e r = (more-state most (most + 2000) s (omega arith) f, r)
    by_refusal None e r = act-fits s most k f command small h (accepted-fits s caller command k.world e) (few-students s caller command e)

-- ---- settling

moved-rows : (w : World) (mv : Move) (choices : List Choice) → (make_move w mv choices).catalogue.rows ≡ w.catalogue.rows
moved-rows w mv choices =
    ap (λ (v : World). v.catalogue.rows) (paths.enrolled (leave_all w mv.student mv.give) mv.student choices) ∙ ap (λ (v : World). v.catalogue.rows) (paths.left w mv.student mv.give)

settled-rows : (n : ℕ) (s : State) → (settle_within n s).state.world.catalogue.rows ≡ s.world.catalogue.rows
settled-rows zero s = refl
settled-rows (suc n) s = by_next (next_entry s) (λ e. settled-rows n (place s e))
  where
    by_next : (o : Option Entry) → ((e : Entry) → (settle_within n (place s e)).state.world.catalogue.rows ≡ (place s e).world.catalogue.rows)
        → (settle_by s (λ e. settle_within n (place s e)) o).state.world.catalogue.rows ≡ s.world.catalogue.rows
    by_next None ih = refl
    by_next (Some e) ih = ih e ∙ moved-rows s.world (move_of s.world e) (choices_for s.world e)

abbrev FitsPlaced : Placement → Type 0
FitsPlaced p = FitsChoice p.choice

placed-fits : (w : World) (e : Entry) → FitsWorld w → rows_in_size w.catalogue.rows ≡ true → WantsCourses e.want → FitsList FitsChoice (choices_for w e) × FitsWorld (make_move w (move_of w e) (choices_for w e))
placed-fits w e f size h = by_found (placement_of w e) refl
  where
    by_found : (o : Option (List Choice)) → placement_of w e ≡ o → FitsList FitsChoice (option_map_or (λ choices. choices) o []) × FitsWorld (make_move w (move_of w e) (option_map_or (λ choices. choices) o []))
    by_found None t = (tt, leave_all-fits (move_of w e).give w e.student f)
    by_found (Some choices) t = move-fits w (move_of w e) choices f size (h, tt) (found-allowed w (move_of w e) waiting_budget choices t)

settled-fits : (n : ℕ) (s : State) (most : ℕ) → FitsState most s → rows_in_size s.world.catalogue.rows ≡ true → FitsState most (settle_within n s).state × FitsList FitsPlaced (settle_within n s).placed
settled-fits zero s most f size = (f, tt)
settled-fits (suc n) s most f size = by_next (next_entry s) refl (λ e. settled-fits n (place s e) most)
  where
    by_next : (o : Option Entry) → next_entry s ≡ o
        → ((e : Entry) → FitsState most (place s e) → rows_in_size (place s e).world.catalogue.rows ≡ true → FitsState most (settle_within n (place s e)).state × FitsList FitsPlaced (settle_within n (place s e)).placed)
        → FitsState most (settle_by s (λ e. settle_within n (place s e)) o).state × FitsList FitsPlaced (settle_by s (λ e. settle_within n (place s e)) o).placed
    by_next None next ih = (f, tt)
    by_next (Some e) next ih =
        let m = (Members.member-filter (is_placeable s.world) s.entries e (first_entry-member (filter (is_placeable s.world) s.entries) e next)).0 in
        let p = placed-fits s.world e f.world size (each-at (FitsWaiting most) s.entries f.entries e m).0 in
        let r =
        ih e (record { world = p.1; entries = each-filter (FitsWaiting most) (λ x. not (x.ticket == e.ticket)) s.entries f.entries; next = f.next })
        (ap rows_in_size (moved-rows s.world (move_of s.world e) (choices_for s.world e)) ∙ size) in
        (r.0, each-append FitsPlaced (placed_by s.world e) (settle_within n (place s e)).placed (each-map FitsChoice FitsPlaced _ (choices_for s.world e) (λ c h. h) p.0) r.1)

after-settling : (reply : Reply) (r : Settled) → FitsReply reply → FitsList FitsPlaced r.placed → FitsReply (reply_after reply r)
after-settling Amended r h p = h
after-settling (Enrolled choice) r h p = h
after-settling (Dropped course) r h p = h
after-settling (Swapped choices) r h p = h
after-settling (Waiting ticket) r h p = by_found (find (λ p. p.ticket == ticket) r.placed) (fits-found FitsPlaced (λ p. p.ticket == ticket) r.placed p)
  where
    by_found : (o : Option Placement) → FitsOptional FitsPlaced o → FitsReply (option_map_or (λ p. Placed ticket p.choice) o (Waiting ticket))
    by_found None c = h
    by_found (Some p) c = (h, c)
after-settling (Placed ticket choice) r h p = h
after-settling (Batched lines) r h p = h
after-settling (Blocked n t) r h p = h
after-settling (Spent budget) r h p = h
after-settling (Refused refusal) r h p = h

-- ---- the step

day-fits : (s : State) (most day : ℕ) → FitsState most s → FitsState most (on_day s day)
day-fits s most day f = record {
  world = record { offerings = f.world.offerings; students = f.world.students; reservations = f.world.reservations; roster = f.world.roster };
  entries = f.entries;
  next = f.next;
}

pub step-fits : StepFits
unfolding step settle
step-fits s most day caller command k f h small =
    let a : Acted = answered (on_day s day) caller command in
    let fits = answered-fits (on_day s day) most (day-state s day k) (day-fits s most day f) small caller command h in
    let size : rows_in_size a.state.world.catalogue.rows ≡ true =
    ap rows_in_size (sym (settled-rows (length a.state.entries) a.state)) ∙ checked-size (step s day caller command).state.world.catalogue.rows (step-keeps s day caller command k).world.rows_pass in
    let r = settled-fits (length a.state.entries) a.state (most + 2000) fits.0 size in
    (r.0, after-settling a.reply (settle a.state) fits.1 r.1)
