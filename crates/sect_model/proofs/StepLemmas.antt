-- Each step keeps what the state keeps, and ends settled.
use Rattle.std.specs.Prelude.{◌≡◌, ℕ, max, Bool, true, false, not, ◌==◌, cond, List, [], ◌∷◌, ◌++◌, map, find, Option, Some, None, refl, flat_map}
use Rattle.std.specs.List.{list_all}
use Rattle.std.specs.Option.{is_some, option_map}
use Rattle.std.proofs.Common.{sym, ◌∙◌, ap, subst}
use Rattle.std.proofs.lemmas.Bool.{eqb-true}
use Rattle.sect_people.specs.Student.{find_student}
use Rattle.sect_catalog.specs.Catalogue.{all_sections, sections_in, is_cancelled, has_course}
use Rattle.sect_command.specs.declared.command.Command.{Command}
use Rattle.sect_command.specs.declared.command.Command.TheVariants.{Offering, Student as student_row, Requests, Reserve, Unreserve, Expire, Restrict, Unrestrict, SetLimit, Cancel, Enrol, Drop, Swap, Wait, Unwait, Batch}
use Rattle.sect_command.specs.declared.reply.Refusal.{Refusal}
use Rattle.sect_command.specs.declared.reply.Reply.{Reply}
use Rattle.sect_command.specs.declared.reply.Reply.TheVariants.{Swapped}
use Rattle.sect_model.specs.declared.change.Change.{Change}
use Rattle.sect_model.specs.declared.change.Change.TheVariants.{Offering as new_offering, Student as new_student, Requests as new_requests, Reserve as new_reservation, Unreserve as gone_reservation, Expiry, Restrict as new_restriction, Unrestrict as gone_restriction, Cap as new_cap, Cancelled, Day, Leave}
use Rattle.sect_model.specs.Data.{Caller, StudentId, SectionId, Move, Choice, Outcome, Student, StudentRow, OfferingRow, Ask, Cap, Limit}
use Rattle.sect_model.specs.declared.pick.Outcome.TheVariants.{Found, Blocked as blocked, Spent as spent}
use Rattle.sect_model.specs.World.{World, State, empty_state, leave}
use Rattle.sect_model.specs.Outcome.{outcome_of}
use Rattle.sect_model.specs.Settle.{found_in, make_move, without}
use Rattle.sect_people.specs.Changes.{with_row, with_asks}
use Rattle.sect_catalog.specs.Limits.{with_limit}
use Rattle.sect_model.specs.Change.{put_offering, put_student, put_limit, reservation_from, restriction_from, cancel, put_day}
use Rattle.sect_model.specs.Batch.{Batched, batch_of, want_of}
use Rattle.sect_model.specs.Refusals.{refusal_of}
use Rattle.sect_model.specs.Premises.{want_fits}
use Rattle.sect_model.specs.Kept.{KeptState, entry_fits}
use Rattle.sect_model.specs.Fits.{Fits, changed}
use Rattle.sect_model.specs.Accepted.{CommandFits}
use Rattle.sect_model.specs.Step.{act, in_world, moved, enrolled, enrol_move, refused_or, answered, on_day, step}
use Rattle.sect_model.specs.History.{Entry, state_after, replay_from}
use Rattle.sect_model.specs.Laws.{StepKeeps, HistoryKeeps, HistoryIsGood, StepSettles}
use Rattle.sect_model.proofs.Members
use Rattle.sect_model.proofs.Members.{all-at, all-of, both, both-left, both-right}
use Rattle.sect_model.proofs.CheckedLemmas.{flat-append}
use Rattle.sect_model.proofs.CapChange.{section-after, offering-after}
use Rattle.sect_model.proofs.ChangeLemmas.{changes-keep, empty-keeps}
use Rattle.sect_model.proofs.KeptMoves.{move-keeps, move-grows, found-allowed, settling-keeps}
use Rattle.sect_model.proofs.SettleLemmas.{settles}
use Rattle.sect_model.proofs.TicketLemmas.{rise-filter}
use Rattle.sect_model.proofs.GrowLemmas.{Grows, same-grows, entries-stay, want-stays}
use Rattle.sect_model.proofs.BatchLemmas.{Goes, answered_fits, batch-goes, join-keeps, join_lines-keep}
use Rattle.sect_model.proofs.Accepted.{accepted-fits}

-- ---- what was known stays known

found-map : {X : Type 0} (test : X → Bool) (f : X → X) (xs : List X) → ((x : X) → test x ≡ true → test (f x) ≡ true) → is_some (find test xs) ≡ true → is_some (find test (map f xs)) ≡ true
found-map test f xs same h =
    let x = Members.known (find test xs) h in
    let m = Members.find-member test xs x.0 x.1 in
    Members.find-some test (map f xs) (f x.0) (Members.member-of_map f xs x.0 m.0) (same x.0 m.1)

found-append : {X : Type 0} (test : X → Bool) (xs ys : List X) → is_some (find test xs) ≡ true → is_some (find test (xs ++ ys)) ≡ true
found-append test xs ys h = let x = Members.known (find test xs) h in ap is_some (Members.find-left test xs ys x.0 x.1)

row-id : (row : StudentRow) (id : StudentId) (s : Student) (b : Bool) → s.row.id.0 == row.id.0 ≡ b → s.row.id.0 == id.0 ≡ true → (cond b (record s { row = row }) s).row.id.0 == id.0 ≡ true
row-id row id s true e h = ap (λ n. n == id.0) (sym (eqb-true s.row.id.0 row.id.0 e)) ∙ h
row-id row id s false e h = h

asks-id : (asks : List Ask) (id : StudentId) (s : Student) (b : Bool) → s.row.id.0 == id.0 ≡ true → (cond b (record s { asks = asks }) s).row.id.0 == id.0 ≡ true
asks-id asks id s true h = h
asks-id asks id s false h = h

student-stays : (row : StudentRow) (students : List Student) (id : StudentId) (b : Bool) → is_some (find_student students id) ≡ true
    → is_some (find_student (cond b (map (with_row row) students) (students ++ record { row = row; asks = [] } ∷ [])) id) ≡ true
student-stays row students id true h = found-map (λ s. s.row.id.0 == id.0) (with_row row) students (λ s t. row-id row id s (s.row.id.0 == row.id.0) refl t) h
student-stays row students id false h = found-append (λ s. s.row.id.0 == id.0) students (record { row = row; asks = [] } ∷ []) h

all_sections-append : (xs ys : List OfferingRow) → all_sections (xs ++ ys) ≡ all_sections xs ++ all_sections ys
all_sections-append xs ys =
    ap (λ gs. sections_in (flat_map (λ g. g.subparts) gs)) (flat-append (λ o. o.configs) xs ys)
    ∙ ap sections_in (flat-append (λ g. g.subparts) (flat_map (λ o. o.configs) xs) (flat_map (λ o. o.configs) ys))
    ∙ flat-append (λ p. p.sections) (flat_map (λ g. g.subparts) (flat_map (λ o. o.configs) xs)) (flat_map (λ g. g.subparts) (flat_map (λ o. o.configs) ys))

pub some-map : {X Y : Type 0} (f : X → Y) (o : Option X) → is_some (option_map f o) ≡ is_some o
some-map f None = refl
some-map f (Some x) = refl

-- each change of a registrar's command
offering-grows : (w : World) (row : OfferingRow) → Grows w (put_offering w row)
offering-grows w row = record {
  students = λ id h. h;
  courses = λ id h. found-append (λ o. has_course o id) w.catalogue.rows (row ∷ []) h;
  sections = λ id h. ap (λ ss. is_some (find (λ s. s.id.0 == id.0) ss)) (all_sections-append w.catalogue.rows (row ∷ [])) ∙ found-append (λ s. s.id.0 == id.0) (all_sections w.catalogue.rows) (all_sections (row ∷ [])) h;
}

limit-grows : (w : World) (cap : Cap) (limit : Limit) → Grows w (put_limit w cap limit)
limit-grows w cap limit = record {
  students = λ id h. h;
  courses = λ id h. ap is_some (offering-after cap limit w.catalogue.rows id) ∙ some-map (with_limit cap limit) _ ∙ h;
  sections = λ id h. ap is_some (section-after cap limit w.catalogue.rows id) ∙ some-map _ _ ∙ h;
}

student-grows : (w : World) (row : StudentRow) → Grows w (put_student w row)
student-grows w row = record {
  students = λ id h. student-stays row w.students id (is_some (find_student w.students row.id)) h;
  courses = λ id h. h;
  sections = λ id h. h;
}

asks-grow : (w : World) (student : StudentId) (asks : List Ask) → Grows w (changed w (new_requests student asks))
asks-grow w student asks = record {
  students = λ id h. found-map (λ s. s.row.id.0 == id.0) (with_asks student asks) w.students (λ s t. asks-id asks id s (s.row.id.0 == student.0) t) h;
  courses = λ id h. h;
  sections = λ id h. h;
}

-- ---- the effect of a command

change-state : (s : State) (change : Change) → KeptState s → Fits s.world change → Grows s.world (changed s.world change) → KeptState (in_world s (changed s.world change))
change-state s change k fits grows = record {
  world = changes-keep s.world change k.world fits;
  in_order = k.in_order;
  entries_fit = entries-stay s.world (changed s.world change) grows s.entries k.entries_fit;
}

same : (s : State) (v : World) → v.students ≡ s.world.students → v.catalogue.rows ≡ s.world.catalogue.rows → Grows s.world v
same s v students rows = same-grows s.world v students rows

moved-keeps : (s : State) (mv : Move) (budget : ℕ) (reply : List Choice → Reply) (o : Outcome) → outcome_of s.world mv budget ≡ o
    → is_some (find_student s.world.students mv.student) ≡ true → KeptState s → KeptState (moved s mv reply o).state
moved-keeps s mv budget reply (Found choices visits) e known k = record {
  world = move-keeps s.world mv choices known (found-allowed s.world mv budget choices (ap found_in e)) k.world;
  in_order = k.in_order;
  entries_fit = entries-stay s.world (make_move s.world mv choices) (move-grows s.world mv choices) s.entries k.entries_fit;
}
moved-keeps s mv budget reply (blocked tree visits) e known k = k
moved-keeps s mv budget reply (spent n) e known k = k

cancel-state : (s : State) (id : SectionId) → CommandFits s.world (Cancel id) → KeptState s → KeptState (in_world s (cancel s.world id))
cancel-state s id fits k = by_test (is_cancelled s.world.catalogue id) refl
  where
    by_test : (b : Bool) → is_cancelled s.world.catalogue id ≡ b → KeptState (in_world s (cancel s.world id))
    by_test true e = subst (λ c. KeptState (in_world s (record s.world { catalogue = record { rows = s.world.catalogue.rows; cancelled = c } }))) (λ i. cond (sym e i) s.world.catalogue.cancelled (s.world.catalogue.cancelled ++ id ∷ [])) k
    by_test false e = change-state s (Cancelled id) k (fits e) (same s (cancel s.world id) refl refl)

-- the lines fit the world after them
lines-fit : (w : World) (b : Batched) → Goes w b → list_all (answered_fits b.world) b.answered ≡ true
lines-fit w b g =
    let grows = same-grows w b.world g.students g.rows in
    all-of (answered_fits b.world) b.answered (λ a m.
    let old = all-at (answered_fits w) b.answered g.fit a m in
    both (is_some (find_student b.world.students a.line.student)) (want_fits b.world (want_of a.ask 0)) (grows.students a.line.student (both-left _ (want_fits w (want_of a.ask 0)) old))
    (want-stays w b.world grows (want_of a.ask 0) (both-right (is_some (find_student w.students a.line.student)) _ old)))

act-keeps : (s : State) (command : Command) → CommandFits s.world command → KeptState s → KeptState (act s command).state
act-keeps s (Offering row) fits k = change-state s (new_offering row) k fits (offering-grows s.world row)
act-keeps s (student_row row) fits k = change-state s (new_student row) k fits (student-grows s.world row)
act-keeps s (Requests student asks) fits k = change-state s (new_requests student asks) k fits (asks-grow s.world student asks)
act-keeps s (Reserve row) fits k = change-state s (new_reservation (reservation_from s.world row)) k fits (same s _ refl refl)
act-keeps s (Unreserve id) fits k = change-state s (gone_reservation id) k fits (same s _ refl refl)
act-keeps s (Expire id expiry) fits k = change-state s (Expiry id expiry) k fits (same s _ refl refl)
act-keeps s (Restrict row) fits k = change-state s (new_restriction (restriction_from s.world row)) k fits (same s _ refl refl)
act-keeps s (Unrestrict id) fits k = change-state s (gone_restriction id) k fits (same s _ refl refl)
act-keeps s (SetLimit level limit) fits k = change-state s (new_cap level limit) k fits (limit-grows s.world level limit)
act-keeps s (Cancel id) fits k = cancel-state s id fits k
act-keeps s (Enrol student want budget) fits k =
    moved-keeps s (enrol_move student want) budget enrolled (outcome_of s.world (enrol_move student want) budget) refl fits.student k
act-keeps s (Drop student course) fits k = change-state s (Leave student course) k fits (same s (leave s.world student course) refl refl)
act-keeps s (Swap student give take budget) fits k =
    let mv : Move = record { student = student; give = give; take = take } in
    moved-keeps s mv budget Swapped (outcome_of s.world mv budget) refl fits.student k
act-keeps s (Wait student want give class) fits k = join-keeps s student want give class fits.0 fits.1 k
act-keeps s (Unwait student ticket) fits k = record {
  world = k.world;
  in_order = rise-filter (λ e. not (e.ticket == ticket)) s.entries s.next k.in_order;
  entries_fit = all-of (entry_fits s.world) (without s.entries ticket) (λ e m. all-at (entry_fits s.world) s.entries k.entries_fit e (Members.member-filter (λ e. not (e.ticket == ticket)) s.entries e m).0);
}
act-keeps s (Batch students) fits k =
    let g = batch-goes s.world students k.world fits in
    let b = batch_of s.world students in
    join_lines-keep b.answered (record { state = in_world s b.world; lines = [] })
    (lines-fit s.world b g)
    (record { world = g.world; in_order = k.in_order; entries_fit = entries-stay s.world b.world (same s b.world g.students g.rows) s.entries k.entries_fit })

-- ---- the step

pub day-state : (s : State) (day : ℕ) → KeptState s → KeptState (on_day s day)
day-state s day k = change-state s (Day (max s.world.day day)) k tt (same s (put_day s.world (max s.world.day day)) refl refl)

pub answered-keeps : (s : State) (caller : Caller) (command : Command) → KeptState s → KeptState (answered s caller command).state
answered-keeps s caller command k = by_refusal (refusal_of s caller command) refl
  where
    by_refusal : (o : Option Refusal) → refusal_of s caller command ≡ o → KeptState (refused_or s (λ t. act t command) o).state
    by_refusal (Some refusal) e = k
    by_refusal None e = act-keeps s command (accepted-fits s caller command k.world e) k

pub step-keeps : StepKeeps
unfolding step
step-keeps s day caller command k = settling-keeps (answered (on_day s day) caller command).state (answered-keeps (on_day s day) caller command (day-state s day k))

pub step-settles : StepSettles
unfolding step
step-settles s day caller command = settles (answered (on_day s day) caller command).state

history-keeps-from : (history : List Entry) (s : State) → KeptState s → KeptState (replay_from s history)
history-keeps-from [] s k = k
history-keeps-from (e ∷ es) s k = history-keeps-from es (state_after s e) (step-keeps s e.day e.id.caller e.command k)

pub history-keeps : HistoryKeeps
history-keeps history = history-keeps-from history empty_state (record { world = empty-keeps; in_order = refl; entries_fit = refl })

pub history-is-good : HistoryIsGood
history-is-good history = (history-keeps history).world.good
