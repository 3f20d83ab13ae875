-- What a command opens or touches is marked, so the entries that aren't marked need no search after it.
use Rattle.std.specs.Prelude.{◌≡◌, ℕ, max, nat_lt, Bool, true, false, not, ◌&&◌, ◌||◌, ◌==◌, cond, List, [], ◌∷◌, ◌++◌, Option, Some, None, Result, OnOk, IsTrue, refl, ◌⊎◌}
use Rattle.std.specs.List.{list_any, list_all}
use Rattle.std.specs.Option.{option_map_or, option_and_then, is_some}
use Rattle.std.proofs.Common.{sym, ◌∙◌, ap, subst, arith, inl, inr}
use Rattle.std.proofs.lemmas.Bool.{eq-eqb}
use Rattle.std.proofs.lemmas.Bool.Decides.{nat_tests}
use Rattle.sect_people.specs.Student.{find_student}
use Rattle.sect_catalog.specs.Catalogue.{find_offering, has_course, is_cancelled}
use Rattle.sect_command.specs.declared.command.Command.{Command}
use Rattle.sect_command.specs.declared.command.Command.TheVariants.{Offering, Student as student_row, Requests, Reserve, Unreserve, Expire, Restrict, Unrestrict, SetLimit, Cancel, Enrol, Drop, Swap, Wait, Unwait, Batch}
use Rattle.sect_command.specs.declared.reply.Reply.{Reply}
use Rattle.sect_command.specs.declared.reply.Reply.TheVariants.{Swapped}
use Rattle.sect_reserve.specs.Audience.{active}
use Rattle.sect_model.specs.Data.{StudentId, SectionId, Cap, Limit, OfferingId, OfferingRow, Want, Choice, Move, Reservation, Restriction}
use Rattle.sect_model.specs.declared.held.Waiting.{Waiting}
use Rattle.sect_model.specs.declared.pick.Outcome.{Outcome}
use Rattle.sect_model.specs.declared.pick.Outcome.TheVariants.{Found, Blocked as blocked, Spent as spent}
use Rattle.sect_model.specs.declared.change.Change.{Change}
use Rattle.sect_model.specs.declared.change.Change.TheVariants.{Offering as new_offering, Student as new_student, Requests as new_requests, Reserve as new_reservation, Unreserve as gone_reservation, Expiry, Restrict as new_restriction, Unrestrict as gone_restriction, Cap as new_cap, Cancelled, Day, Enrol as new_enrolment, Leave}
use Rattle.sect_model.specs.World.{World, State, offering_of, is_of, reservation_of, enrol}
use Rattle.sect_model.specs.Change.{reservation_from, restriction_from, cancel, put_limit}
use Rattle.sect_model.specs.Refusals.{restriction_of}
use Rattle.sect_model.specs.Outcome.{outcome_of}
use Rattle.sect_model.specs.Move.{are_allowed}
use Rattle.sect_model.specs.Allowed.{is_allowed, reservations_of}
use Rattle.sect_model.specs.Settle.{found_in, make_move}
use Rattle.sect_model.specs.Fits.{Fits, changed}
use Rattle.sect_model.specs.Kept.{KeptWorld, KeptState, entry_fits}
use Rattle.sect_model.specs.Accepted.{CommandFits}
use Rattle.sect_model.specs.Premises.{MoveFits}
use Rattle.sect_model.specs.Batch.{batch_of, join_lines}
use Rattle.sect_model.specs.Step.{Acted, act, batched, moved, enrolled, enrol_move}
use Rattle.sect_base.specs.declared.limit.Cap.TheVariants.{Section as cap_section}
use Rattle.sect_model.specs.Freer.{Among, caps_wanted, may_open, flips, wants}
use Rattle.sect_model.proofs.Members
use Rattle.sect_model.proofs.Members.{all-at, member-of_filter, neither-left, neither-right, none-at, none-of, both-left, not_both}
use Rattle.sect_model.proofs.FreerLemmas.{member}
use Rattle.sect_model.proofs.KeptMoves.{found-allowed}
use Rattle.sect_model.proofs.FreerIndex.{wants-listed}
use Rattle.sect_space.specs.declared.back.Back.{Back}
use Rattle.sect_space.specs.Back.{back_of}
use Rattle.sect_space.proofs.Bounds.{of-offering}
use Rattle.sect_wait.specs.Queued.{Queued, new_entry, state_of}
use Rattle.sect_wait.specs.Marked.{Marked, Needless, is_marked, is_noted, is_noted_in, may_need, OthersNeedNoSearch, MarksKept, MarksMore, concerns}
use Rattle.sect_wait.specs.Indexed.{MarksTold}
use Rattle.sect_wait.proofs.MarkLemmas.{changed-others, among-append, more-test, on-ok, others-without}
use Rattle.sect_wait.proofs.NeedLemmas.{both-kept, neither, plain-marks, plain-need, same-notes}
use Rattle.sect_wait.proofs.ToldLemmas.{nobody-marked, told-marks}
use Rattle.sect_machine.specs.Acting.{IsLeft}
use Rattle.sect_machine.specs.Opening.{RecordsLimit, batch_opens, enrolled_opens, flip_opens, flip_opens_of, last_offering, opened, opens, reserved_in, restricted_in, sectioned_in, swap_opens}
use Rattle.sect_machine.proofs.LimitLemmas.{cancel-closed, limit-closed}
use Rattle.sect_machine.proofs.OpenedLemmas.{Stays, batch-stays, swap-stays}

no : {P : Type 0} → true ≡ false → P
no h = absurd (differ h)
  where
    differ : true ≡ false → ⊥
    differ h = cc

-- ---- what is wanted, by the row of the offering

wants-row : (w : World) (want : Want) (id : OfferingId) (o : Option OfferingRow) → KeptWorld w → find_offering w.catalogue.rows id ≡ o
    → wants w want id ≡ option_map_or (λ o. list_any (has_course o) want.courses) o false
wants-row w want id (Some o) k its = wants-listed w want id o k its
wants-row w want id None k its = none-of (λ c. is_of w id c) want.courses (λ c m. by_row c (offering_of w c) refl)
  where
    none : (x : OfferingRow) → Members.Member w.catalogue.rows x → x.id.0 == id.0 ≡ true → false ≡ true
    none x m same = ap is_some (sym its) ∙ Members.find-some (λ o. o.id.0 == id.0) w.catalogue.rows x m same

    by_test : (b : Bool) → (b ≡ true → false ≡ true) → b ≡ false
    by_test true h = no (sym (h refl))
    by_test false h = refl

    by_row : (c : _) (x : Option OfferingRow) → offering_of w c ≡ x → option_map_or (λ o. o.id.0 == id.0) x false ≡ false
    by_row c None e = refl
    by_row c (Some x) e = by_test (x.id.0 == id.0) (none x (Members.find-member (λ o. has_course o c) w.catalogue.rows x e).0)

wanted : (w : World) (id : OfferingId) (e : Waiting) → KeptWorld w → concerns None (find_offering w.catalogue.rows id) e ≡ false → wants w e.want id ≡ false
wanted w id e k h = wants-row w e.want id (find_offering w.catalogue.rows id) k refl ∙ h

reserved : (w : World) (e : Waiting) (o : Option Reservation) → KeptWorld w → concerns None (option_and_then (λ r. find_offering w.catalogue.rows r.offering) o) e ≡ false
    → option_map_or (λ r. wants w e.want r.offering) o false ≡ false
reserved w e None k h = refl
reserved w e (Some r) k h = wanted w r.offering e k h

restricted : (w : World) (e : Waiting) (o : Option Restriction) → KeptWorld w → concerns None (option_and_then (λ r. find_offering w.catalogue.rows r.offering) o) e ≡ false
    → option_map_or (λ r. wants w e.want r.offering) o false ≡ false
restricted w e None k h = refl
restricted w e (Some r) k h = wanted w r.offering e k h

-- what is left of a command opens what the command opens
opened-left : (w : World) (noted : List ℕ) (backs : List Back) (command left : Command) (reply : Reply) (e : Waiting) → IsLeft command left
    → opened w noted backs command reply e ≡ opened w noted backs left reply e
opened-left w noted backs (Offering row) left reply e h = ap (λ c. opened w noted backs c reply e) (sym h.1)
opened-left w noted backs (student_row row) left reply e h = ap (λ c. opened w noted backs c reply e) (sym h.1)
opened-left w noted backs (Requests student asks) left reply e h = ap (λ c. opened w noted backs c reply e) (sym h.1)
opened-left w noted backs (Reserve row) left reply e h = ap (λ c. opened w noted backs c reply e) (sym h)
opened-left w noted backs (Unreserve id) left reply e h = ap (λ c. opened w noted backs c reply e) (sym h)
opened-left w noted backs (Expire id expiry) left reply e h = ap (λ c. opened w noted backs c reply e) (sym h)
opened-left w noted backs (Restrict row) left reply e h = ap (λ c. opened w noted backs c reply e) (sym h)
opened-left w noted backs (Unrestrict id) left reply e h = ap (λ c. opened w noted backs c reply e) (sym h)
opened-left w noted backs (SetLimit level limit) left reply e h = ap (λ c. opened w noted backs c reply e) (sym h)
opened-left w noted backs (Cancel id) left reply e h = ap (λ c. opened w noted backs c reply e) (sym h)
opened-left w noted backs (Enrol student want budget) left reply e h = ap (λ c. opened w noted backs c reply e) (sym h)
opened-left w noted backs (Drop student course) left reply e h = ap (λ c. opened w noted backs c reply e) (sym h)
opened-left w noted backs (Swap student give take budget) left reply e h = ap (λ c. opened w noted backs c reply e) (sym h)
opened-left w noted backs (Wait student want give class) left reply e h = ap (λ c. opened w noted backs c reply e) (sym h)
opened-left w noted backs (Unwait student ticket) left reply e h = ap (λ c. opened w noted backs c reply e) (sym h)
opened-left w noted backs (Batch students) left reply e h = ap (λ c. opened w noted backs c reply e) (sym h)

-- what is marked by what is left of a command is marked by the command
pub marks-left : (w : World) (noted : List ℕ) (backs : List Back) (command left : Command) (reply : Reply) (entries : List Waiting) (m n : Marked) → IsLeft command left
    → MarksMore (opened w noted backs left reply) entries m n → MarksMore (opened w noted backs command reply) entries m n
marks-left w noted backs command left reply entries m n rest more = record {
  kept = more.kept;
  added = λ e a h. opened-left w noted backs command left reply e rest ∙ more.added e a h;
}

-- ---- a command

module _ (s : State) (k : KeptState s) (m n l : Marked) (others : OthersNeedNoSearch s.world s.entries m) where
  -- an entry that isn't marked needs no search
  stays : (e : Waiting) → Among s.entries e → is_marked m e ≡ false → Stays e m.spent s.world
  stays e a unmarked = record { kept = k.world; fits = all-at (entry_fits s.world) s.entries k.entries_fit e (member s.entries e a); needless = others e a unmarked }

  -- nothing of the world was changed
  same-world : MarksKept m n → MarksKept n l → OthersNeedNoSearch s.world s.entries l
  same-world before after e a unmarked = same-notes s.world e m l (both-kept m n l before after) (others e a (before.marks e (after.marks e unmarked)))

  -- one change was made, of which the command's marks before it tell
  one-change : (change : Change) (test : Waiting → Bool) → Fits s.world change → ((e : Waiting) → test e ≡ false → may_need s.world (is_noted m.spent e) e change ≡ false) → MarksMore test s.entries m n → MarksKept n l
      → OthersNeedNoSearch (changed s.world change) s.entries l
  one-change change test fits opens_what before after =
      changed-others s.world (changed s.world change) s.entries m l change k.world fits k.entries_fit refl others (record {
        kept = both-kept m n l before.kept after;
        added = λ e a h. opens_what e (before.added e a (after.marks e h));
      })

  -- an enrolment by what its search found
  enrolment : (student : StudentId) (want : Want) (choices : List Choice) → is_some (find_student s.world.students student) ≡ true → are_allowed s.world student (want ∷ []) choices ≡ true
      → MarksKept m n → MarksMore (enrolled_opens (make_move s.world (enrol_move student want) choices) m.spent student (enrolled choices)) s.entries n l
      → OthersNeedNoSearch (make_move s.world (enrol_move student want) choices) s.entries l
  enrolment student want [] known h before after = no (sym h)
  enrolment student want (c ∷ []) known h before after =
      changed-others s.world (enrol s.world student c) s.entries m l (new_enrolment (record { student = student; choice = c })) k.world (known, want, both-left (is_allowed s.world student want c) _ h) k.entries_fit refl others
      (record {
        kept = both-kept m n l before after.kept;
        added = after.added;
      })
  enrolment student want (c ∷ d ∷ cs) known h before after = absurd (not_both false (Members.both-right (is_allowed s.world student want c) false h) refl)

  by-enrolment : (student : StudentId) (want : Want) (budget : ℕ) (o : Outcome) → outcome_of s.world (enrol_move student want) budget ≡ o → is_some (find_student s.world.students student) ≡ true
      → MarksKept m n → MarksMore (enrolled_opens (moved s (enrol_move student want) enrolled o).state.world m.spent student (moved s (enrol_move student want) enrolled o).reply) (moved s (enrol_move student want) enrolled o).state.entries n l
      → OthersNeedNoSearch (moved s (enrol_move student want) enrolled o).state.world (moved s (enrol_move student want) enrolled o).state.entries l
  by-enrolment student want budget (Found choices visits) e known before after =
      enrolment student want choices known (found-allowed s.world (enrol_move student want) budget choices (ap found_in e)) before after
  by-enrolment student want budget (blocked tree visits) e known before after = same-world before after.kept
  by-enrolment student want budget (spent b) e known before after = same-world before after.kept

  by-swap : (mv : Move) (budget : ℕ) (o : Outcome) → outcome_of s.world mv budget ≡ o → MoveFits s.world mv → MarksKept m n
      → MarksMore (swap_opens (moved s mv Swapped o).state.world m.spent mv.student mv.give (moved s mv Swapped o).reply) (moved s mv Swapped o).state.entries n l
      → OthersNeedNoSearch (moved s mv Swapped o).state.world (moved s mv Swapped o).state.entries l
  by-swap mv budget (Found choices visits) found fits before after = λ e a unmarked.
      same-notes (make_move s.world mv choices) e m l (both-kept m n l before after.kept)
      (swap-stays e m.spent s.world mv choices fits (found-allowed s.world mv budget choices (ap found_in found)) (after.added e a unmarked) (stays e a (before.marks e (after.kept.marks e unmarked)))).needless
  by-swap mv budget (blocked tree visits) found fits before after = same-world before after.kept
  by-swap mv budget (spent b) found fits before after = same-world before after.kept

  -- a limit that was set
  by-limit : (cap : Cap) (limit : Limit) (backs now : List Back) → Fits s.world (new_cap cap limit) → now ≡ backs ++ back_of s.world (new_cap cap limit) ∷ [] → MarksKept m n
      → MarksMore (concerns None (last_offering (put_limit s.world cap limit) now)) s.entries n l → OthersNeedNoSearch (put_limit s.world cap limit) s.entries l
  by-limit cap limit backs now fits recorded before after =
      changed-others s.world (put_limit s.world cap limit) s.entries m l (new_cap cap limit) k.world fits k.entries_fit refl others (record {
        kept = both-kept m n l before after.kept;
        added = λ e a h. plain-need s.world e (is_noted m.spent e) (new_cap cap limit) refl (limit-closed s.world cap limit backs now e k.world fits recorded (after.added e a h));
      })

  -- a batch that was made
  by-batch : (students : List StudentId) → list_all (λ x. is_some (find_student s.world.students x)) students ≡ true → MarksKept m n
      → MarksMore (batch_opens (batched s students).state.world m.spent (batched s students).reply) (batched s students).state.entries n l
      → OthersNeedNoSearch (batched s students).state.world (batched s students).state.entries l
  by-batch students known before after = λ e a unmarked.
      same-notes (batched s students).state.world e m l (both-kept m n l before after.kept)
      (batch-stays s m.spent students e known (λ old. stays e old (before.marks e (after.kept.marks e unmarked)))
      (join_lines (record { state = record s { world = (batch_of s.world students).world }; lines = [] }) (batch_of s.world students).answered) refl (after.added e a unmarked) a)

  by-cancel : (id : SectionId) (b : Bool) → is_cancelled s.world.catalogue id ≡ b → (is_cancelled s.world.catalogue id ≡ false → Fits s.world (Cancelled id)) → MarksMore (is_noted_in m.spent (sectioned_in s.world id)) s.entries m n → MarksKept n l
      → OthersNeedNoSearch (cancel s.world id) s.entries l
  by-cancel id true e fits before after =
      subst (λ c. OthersNeedNoSearch (record s.world { catalogue = record { rows = s.world.catalogue.rows; cancelled = c } }) s.entries l)
      (λ i. cond (sym e i) s.world.catalogue.cancelled (s.world.catalogue.cancelled ++ id ∷ [])) (same-world before.kept after)
  by-cancel id false e fits before after = one-change (Cancelled id) (is_noted_in m.spent (sectioned_in s.world id)) (fits e) (λ f h. by_noted f (is_noted m.spent f) h) before after
    where
      by_noted : (f : Waiting) (b : Bool) → b && concerns None (sectioned_in s.world id) f ≡ false → b && caps_wanted s.world f.want (cap_section id) ≡ false
      by_noted f true h = cancel-closed s.world id f k.world h
      by_noted f false h = refl

  by-join : (f : Waiting) → MarksKept m n → MarksMore (λ e. f.ticket == e.ticket) (s.entries ++ f ∷ []) n l → OthersNeedNoSearch s.world (s.entries ++ f ∷ []) l
  by-join f before after e a unmarked = by_place (among-append s.entries f e a)
    where
      by_place : Among s.entries e ⊎ Among (f ∷ []) e → Needless s.world (is_noted l.spent e) e
      by_place (inl old) = same-notes s.world e m l (both-kept m n l before after.kept) (others e old (before.marks e (after.kept.marks e unmarked)))
      by_place (inr (inl new)) = no (sym (eq-eqb f.ticket e.ticket (ap (λ (x : Waiting). x.ticket) new)) ∙ after.added e a unmarked)
      by_place (inr (inr new)) = absurd new

  pub act-others : (backs now : List Back) (command : Command) → RecordsLimit s.world command backs now → CommandFits s.world command → MarksMore (opens s.world m.spent command) s.entries m n
      → MarksMore (opened (act s command).state.world m.spent now command (act s command).reply) (act s command).state.entries n l → OthersNeedNoSearch (act s command).state.world (act s command).state.entries l
  act-others backs now (Offering row) recorded fits before after = one-change (new_offering row) (λ e. false) fits (λ e h. plain-need s.world e (is_noted m.spent e) (new_offering row) refl refl) before after.kept
  act-others backs now (student_row row) recorded fits before after = one-change (new_student row) (concerns (Some row.id) None) fits (λ e h. plain-need s.world e (is_noted m.spent e) (new_student row) refl (neither-left (row.id.0 == e.student.0) false h)) before after.kept
  act-others backs now (Requests student asks) recorded fits before after = one-change (new_requests student asks) (concerns (Some student) None) fits (λ e h. plain-need s.world e (is_noted m.spent e) (new_requests student asks) refl (neither-left (student.0 == e.student.0) false h)) before after.kept
  act-others backs now (Reserve row) recorded fits before after =
      one-change (new_reservation (reservation_from s.world row)) (concerns None (find_offering s.world.catalogue.rows row.offering)) fits
      (λ e h. plain-need s.world e (is_noted m.spent e) (new_reservation (reservation_from s.world row)) refl (wanted s.world row.offering e k.world h)) before after.kept
  act-others backs now (Unreserve id) recorded fits before after =
      one-change (gone_reservation id) (concerns None (reserved_in s.world id)) fits
      (λ e h. plain-need s.world e (is_noted m.spent e) (gone_reservation id) refl (reserved s.world e (reservation_of s.world id) k.world h)) before after.kept
  act-others backs now (Expire id expiry) recorded fits before after =
      one-change (Expiry id expiry) (concerns None (reserved_in s.world id)) fits
      (λ e h. plain-need s.world e (is_noted m.spent e) (Expiry id expiry) refl (reserved s.world e (reservation_of s.world id) k.world h)) before after.kept
  act-others backs now (Restrict row) recorded fits before after =
      one-change (new_restriction (restriction_from s.world row)) (concerns None (find_offering s.world.catalogue.rows row.offering)) fits
      (λ e h. plain-need s.world e (is_noted m.spent e) (new_restriction (restriction_from s.world row)) refl (wanted s.world row.offering e k.world h)) before after.kept
  act-others backs now (Unrestrict id) recorded fits before after =
      one-change (gone_restriction id) (concerns None (restricted_in s.world id)) fits
      (λ e h. plain-need s.world e (is_noted m.spent e) (gone_restriction id) refl (restricted s.world e (restriction_of s.world id) k.world h)) before after.kept
  act-others backs now (SetLimit level limit) recorded fits before after = by-limit level limit backs now fits recorded before.kept after
  act-others backs now (Cancel id) recorded fits before after = by-cancel id (is_cancelled s.world.catalogue id) refl fits before after.kept
  act-others backs now (Enrol student want budget) recorded fits before after =
      by-enrolment student want budget (outcome_of s.world (enrol_move student want) budget) refl fits.student before.kept after
  act-others backs now (Drop student course) recorded fits before after =
      one-change (Leave student course) (λ e. may_open s.world e (Leave student course)) fits (λ e h. plain-need s.world e (is_noted m.spent e) (Leave student course) refl h) before after.kept
  act-others backs now (Swap student give take budget) recorded fits before after =
      let mv : Move = record { student = student; give = give; take = take } in
      by-swap mv budget (outcome_of s.world mv budget) refl fits before.kept after
  act-others backs now (Wait student want give class) recorded fits before after = by-join (new_entry s.next student want give class) before.kept after
  act-others backs now (Unwait student ticket) recorded fits before after = others-without s.world s.entries l ticket (same-world before.kept after.kept)
  act-others backs now (Batch students) recorded fits before after = by-batch students fits before.kept after

-- once a command was answered, and what it opens is marked
pub acted-others : (w v : World) (q p : Queued) (backs now : List Back) (command : Command) (reply : Reply) (m n l : Marked) → KeptState (state_of w q) → CommandFits w command
    → act (state_of w q) command ≡ record { state = state_of v p; reply = reply } → RecordsLimit w command backs now → OthersNeedNoSearch w q.entries m → MarksMore (opens w m.spent command) q.entries m n
    → MarksMore (opened v n.spent now command reply) p.entries n l → OthersNeedNoSearch v p.entries l
acted-others w v q p backs now command reply m n l k fits is recorded others before after =
    subst (λ (a : Acted). OthersNeedNoSearch a.state.world a.state.entries l) is
    (act-others (state_of w q) k m n l others backs now command recorded fits before
    (subst (λ (a : Acted). MarksMore (opened a.state.world m.spent now command a.reply) a.state.entries n l) (sym is)
    (subst (λ ts. MarksMore (opened v ts now command reply) p.entries n l) before.kept.spent after)))

-- the day, once what it opens is marked
pub day-others : (w v : World) (es : List Waiting) (day : ℕ) (m n : Marked) → KeptWorld w → IsTrue (list_all (entry_fits w) es) → v ≡ changed w (Day (max w.day day)) → OthersNeedNoSearch w es m
    → MarksMore (λ e. may_open w e (Day (max w.day day))) es m n → OthersNeedNoSearch v es n
day-others w v es day m n k fit is others marks = changed-others w v es m n (Day (max w.day day)) k tt fit is others (plain-marks w es m n (Day (max w.day day)) (λ e. refl) marks)

-- ---- marks of a day

and-left : (a b : Bool) → a ≡ false → a && b ≡ false
and-left true b h = cc
and-left false b h = refl

and-right : (a b : Bool) → b ≡ false → a && b ≡ false
and-right true b h = h
and-right false b h = refl

-- the entries that want the reservation's offering are marked
pub flip-marks : {A E : Type 0} (w : World) (day : ℕ) (r : Reservation) (o : Option OfferingRow) (es : List Waiting) (m n : Marked) (result : Result A E) → KeptWorld w
    → o ≡ find_offering w.catalogue.rows r.offering → OnOk result (MarksMore (concerns None o) es m n) → OnOk result (MarksMore (flip_opens w day r) es m n)
flip-marks w day r o es m n result k its marks =
    on-ok result (more-test (flip_opens w day r) (concerns None (find_offering w.catalogue.rows r.offering)) es m n (λ e h. and-left (wants w e.want r.offering) (flips w day r) (wanted w r.offering e k h)))
    (subst (λ x. OnOk result (MarksMore (concerns None x) es m n)) its marks)

-- a reservation that neither begins nor ends
pub unflipped : (w : World) (day : ℕ) (r : Reservation) (es : List Waiting) (m : Marked) → flips w day r ≡ false → MarksMore (flip_opens w day r) es m m
unflipped w day r es m none = nobody-marked (flip_opens w day r) es m (λ e. and-right (wants w e.want r.offering) (flips w day r) none)

no-flip : (b : Bool) → cond b (not b) b ≡ false
no-flip true = refl
no-flip false = refl

-- a day that isn't later opens nothing
pub same-day : (w : World) (day : ℕ) (es : List Waiting) (m : Marked) → nat_lt w.day day ≡ false → MarksMore (λ e. may_open w e (Day (max w.day day))) es m m
same-day w day es m h = nobody-marked (λ e. may_open w e (Day (max w.day day))) es m (λ e.
    ap (λ d. may_open w e (Day d)) (same w.day day h)
    ∙ none-of (λ r. flip_opens w w.day r e) w.reservations (λ r i. and-right (wants w e.want r.offering) (flips w w.day r) (no-flip (active r w.day))))
  where
    same : (a b : ℕ) → nat_lt a b ≡ false → max a b ≡ a
    same a b h = grind (arith, nat_tests, h)

-- where no offering has such a reservation, there is none
none-filed : (w : World) → KeptWorld w → (f : Reservation → Bool) → list_any (λ o. list_any f (reservations_of w o.id)) w.catalogue.rows ≡ false → list_any f w.reservations ≡ false
none-filed w k f none = none-of f w.reservations (λ r m.
    let o = of-offering w k r m in
    none-at f (reservations_of w o.0.id) (none-at (λ o. list_any f (reservations_of w o.id)) w.catalogue.rows none o.0 o.1) r (member-of_filter (λ x. x.offering.0 == o.0.id.0) w.reservations r m o.2))

-- on the way to a later day
pub later-day : {A E : Type 0} (w : World) (day : ℕ) (rows : List OfferingRow) (es : List Waiting) (m n : Marked) (result : Result A E) → KeptWorld w → nat_lt w.day day ≡ true → rows ≡ w.catalogue.rows
    → OnOk result (MarksMore (λ e. list_any (λ o. flip_opens_of w day o e) rows) es m n) → OnOk result (MarksMore (λ e. may_open w e (Day (max w.day day))) es m n)
later-day w day rows es m n result k h all marks =
    subst (λ d. OnOk result (MarksMore (λ e. may_open w e (Day d)) es m n)) (later w.day day h)
    (on-ok result
    (more-test (λ e. list_any (λ r. flip_opens w day r e) w.reservations) (λ e. list_any (λ o. flip_opens_of w day o e) w.catalogue.rows) es m n (λ e none. none-filed w k (λ r. flip_opens w day r e) none))
    (subst (λ xs. OnOk result (MarksMore (λ e. list_any (λ o. flip_opens_of w day o e) xs) es m n)) all marks))
  where
    later : (a b : ℕ) → nat_lt a b ≡ true → b ≡ max a b
    later a b h = grind (arith, nat_tests, h)

-- ---- marks of two kinds, one after the other

pub either-marks : {A E : Type 0} (f g : Waiting → Bool) (es : List Waiting) (m k n : Marked) (r : Result A E) → MarksMore f es m k → OnOk r (MarksMore g es k n)
    → OnOk r (MarksMore (λ e. f e || g e) es m n)
either-marks f g es m k n r first marks = on-ok r join marks
  where
    join : MarksMore g es k n → MarksMore (λ e. f e || g e) es m n
    join second = record {
      kept = both-kept m k n first.kept second.kept;
      added = λ e a h. neither (f e) (g e) (first.added e a (second.kept.marks e h)) (second.added e a h);
    }

-- a marked ticket marks its entry
pub ticket-marks : (ticket : ℕ) (es : List Waiting) (m n : Marked) → MarksTold (Some (ticket ∷ [])) m n → MarksMore (λ e. ticket == e.ticket) es m n
ticket-marks ticket es m n marks = told-marks (λ e. ticket == e.ticket) es (Some (ticket ∷ [])) m n (λ e a h. neither-left (ticket == e.ticket) false h) marks
