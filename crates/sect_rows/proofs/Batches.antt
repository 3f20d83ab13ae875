-- The lines of a batch have texts, and so has who waits after it.
use Rattle.std.specs.Prelude.{◌≡◌, ℕ, ◌+◌, ◌*◌, ◌≤◌, Bool, true, false, ◌&&◌, ◌==◌, nat_lt, cond, List, [], ◌∷◌, ◌++◌, length, find, Option, Some, None, refl}
use Rattle.std.specs.List.{list_all, enumerate_from}
use Rattle.std.specs.Bool.{then_some}
use Rattle.std.specs.Option.{is_some, is_none, option_map, option_map_or, option_or}
use Rattle.std.proofs.Common.{sym, ◌∙◌, ap, arith}
use Rattle.std.proofs.lemmas.Bool.Decides.{nat_tests}
use Rattle.sect_base.specs.Capped.{capped}
use Rattle.sect_people.specs.Student.{find_student}
use Rattle.sect_people.specs.Fault as requests
use Rattle.sect_people.specs.declared.row.Ask.TheVariants.{Course as asks_course, Free}
use Rattle.sect_people.specs.declared.row.RequestFault.TheVariants.{UnknownCourse, Twice, TooMany}
use Rattle.sect_command.specs.declared.reply.LineResult.{LineResult}
use Rattle.sect_command.specs.declared.reply.LineResult.TheVariants.{Met, Held, Blocked, Spent, Waiting, Skipped}
use Rattle.sect_model.specs.Data.{StudentId, CourseId, Want, Ask, CourseAsk, Move, Student}
use Rattle.sect_model.specs.declared.pick.Outcome.{Outcome}
use Rattle.sect_model.specs.declared.pick.Outcome.TheVariants.{Found, Blocked as blocked, Spent as spent}
use Rattle.sect_model.specs.World.{World, State, course_ids, holds}
use Rattle.sect_model.specs.Outcome.{outcome_of}
use Rattle.sect_model.specs.Settle.{found_in}
use Rattle.sect_model.specs.Batch.{Batched, Answered, Joined, batch_of, batch_students, batch_asks, add_line, answer_to, held_or, skipped_or, is_skipped, search_for, result_of, want_of, asks_of, request_move, join_lines, join_line, join_by, join, ticket_of, is_unmet}
use Rattle.sect_model.specs.Premises.{WorldKeeps, courses_known, is_sized, want_fits}
use Rattle.sect_model.specs.Stands.{MoveStands}
use Rattle.sect_model.specs.Kept.{KeptWorld, asks_pass}
use Rattle.sect_model.proofs.Members
use Rattle.sect_model.proofs.Members.{all-at, all-of, both, both-left, both-right}
use Rattle.sect_model.proofs.CheckedLemmas.{checked-size}
use Rattle.sect_model.proofs.KeptMoves.{found-allowed}
use Rattle.sect_model.proofs.OfferingChange.{none-left, none-right, none-map}
use Rattle.sect_model.proofs.GrowLemmas.{same-grows, want-stays}
use Rattle.sect_model.proofs.BatchLemmas.{Goes, ask_fits, asks-fit, all-enumerate, line-goes, asks-go, ask-back}
use Rattle.sect_wire.specs.Fits.{FitsList, FitsOptional, FitsCourse, FitsStudent, FitsAsk, FitsResult, FitsLine}
use Rattle.sect_rows.specs.States.{FitsWorld, FitsState, FitsStudentAsks, FitsWaiting}
use Rattle.sect_rows.proofs.Each.{each-one, each-more, each-found, fits-found}
use Rattle.sect_rows.proofs.Worlds.{enrol-fits, held-credits}
use Rattle.sect_rows.proofs.Choices.{WantsCourses, has-sections, move-fits}
use Rattle.sect_rows.proofs.Leaves.{blocked-fits}
use Rattle.sect_rows.proofs.Refusals.{ticket-fits}

-- a line and the courses of the request that it answers have texts
abbrev FitsAnswered : Answered → Type 0
FitsAnswered a = FitsLine a.line × FitsList FitsCourse a.ask.courses

record FitBatch (b : Batched) : Type 0 where
  world : FitsWorld b.world
  lines : FitsList FitsAnswered b.answered

-- ---- the requests of a student

asked : (w : World) → FitsWorld w → (student : StudentId) → FitsList FitsAsk (asks_of w student)
asked w f student = by_found (find_student w.students student) refl
  where
    by_found : (o : Option Student) → find_student w.students student ≡ o → FitsList FitsAsk (option_map_or (λ s. s.asks) o [])
    by_found None e = tt
    by_found (Some s) e = (each-found FitsStudentAsks (λ s. s.row.id.0 == student.0) w.students s f.students e).1

at_most_20 : (n : ℕ) → is_none (then_some (nat_lt 20 n) n) ≡ true → n ≤ 20
at_most_20 n h = by_test (nat_lt 20 n) refl h
  where
    within : nat_lt 20 n ≡ false → n ≤ 20
    within e = grind (arith, nat_tests, e)

    by_test : (b : Bool) → nat_lt 20 n ≡ b → is_none (then_some b n) ≡ true → n ≤ 20
    by_test true e h = absurd (Members.not_both false h refl)
    by_test false e h = within e

few-asks : (w : World) → KeptWorld w → (student : StudentId) → length (asks_of w student) ≤ 20
few-asks w k student = by_found (find_student w.students student) refl
  where
    few : (asks : List Ask) → is_none (requests.fault_of asks (course_ids w)) ≡ true → length asks ≤ 20
    few asks h =
        let all : List CourseId = requests.courses_of_all asks in
        let size : Option ℕ = option_or (then_some (nat_lt 20 (length asks)) (length asks)) (requests.first_bad_length asks) in
        let rest = none-right (option_map (λ c. UnknownCourse c.0) (find (requests.is_unknown (course_ids w)) all)) _ h in
        let sizes = none-right (option_map Twice (requests.repeated_after [] all)) (option_map (λ n. TooMany (capped n)) size) rest in
        at_most_20 (length asks) (none-left (then_some (nat_lt 20 (length asks)) (length asks)) (requests.first_bad_length asks) (sym (none-map (λ n. TooMany (capped n)) size) ∙ sizes))

    by_found : (o : Option Student) → find_student w.students student ≡ o → length (option_map_or (λ s. s.asks) o []) ≤ 20
    by_found None e = omega arith
    by_found (Some s) e = few s.asks (all-at (asks_pass w) w.students k.asks_pass s (Members.find-member (λ s. s.row.id.0 == student.0) w.students s e).0)

abbrev FitsPlaced : ℕ × Ask → Type 0
FitsPlaced p = (p.0 ≤ 255) × FitsAsk p.1

numbered : (n : ℕ) (asks : List Ask) → n + length asks ≤ 255 → FitsList FitsAsk asks → FitsList FitsPlaced (enumerate_from n asks)
numbered n [] few h = tt
numbered n (a ∷ asks) few h = ((omega (arith, few), h.0), numbered (n + 1) asks (omega (arith, few)) h.1)

-- ---- a line

module _ (b : Batched) (k : KeptWorld b.world) (f : FitsWorld b.world) (student : StudentId) (known : is_some (find_student b.world.students student) ≡ true) where
  answer-fits : (rank : ℕ) (ask : CourseAsk) → rank ≤ 255 → FitsList FitsCourse ask.courses → want_fits b.world (want_of ask 0) ≡ true → FitsResult (answer_to b student rank ask)
  answer-fits rank ask few h fits = by_held (find (holds b.world student) ask.courses) (fits-found FitsCourse (holds b.world student) ask.courses h)
    where
      mv : Move
      mv = request_move student ask rank

      stands : MoveStands b.world mv
      stands = record {
        student = known;
        courses = both (courses_known b.world (want_of ask rank)) true (both-left (courses_known b.world (want_of ask 0)) true (both-left _ (is_sized (want_of ask 0)) fits)) refl;
        sections = refl;
        sized = both (is_sized (want_of ask rank)) true (both-right (courses_known b.world (want_of ask 0) && true) (is_sized (want_of ask 0)) fits) refl;
      }

      keeps : WorldKeeps b.world
      keeps = record { checked = k.rows_pass; reservations_differ = k.reservations_differ }

      by_outcome : (o : Outcome) → outcome_of b.world mv 2000 ≡ o → FitsResult (result_of o)
      by_outcome (Found [] visits) e = tt
      by_outcome (Found (c ∷ cs) visits) e = (move-fits b.world mv (c ∷ cs) f (checked-size b.world.catalogue.rows k.rows_pass) (h, tt) (found-allowed b.world mv 2000 (c ∷ cs) (ap found_in e))).0.0
      by_outcome (blocked tree visits) e =
          blocked-fits b.world mv f (held-credits b.world student f k.good known) (omega arith) ((h, few), tt) 2000 visits tree (omega arith) keeps stands e
      by_outcome (spent n) e = tt

      by_skip : (skip : Bool) → FitsResult (skipped_or (λ _. search_for b.world student ask rank) skip)
      by_skip true = tt
      by_skip false = by_outcome (outcome_of b.world mv 2000) refl

      by_held : (o : Option CourseId) → FitsOptional FitsCourse o → FitsResult (held_or (λ _. skipped_or (λ _. search_for b.world student ask rank) (is_skipped b student ask)) o)
      by_held None c = by_skip (is_skipped b student ask)
      by_held (Some course) c = c

line-added : (b : Batched) (student : StudentId) (rank : ℕ) (ask : CourseAsk) (result : LineResult) → FitsStudent student → rank ≤ 255 → FitsList FitsCourse ask.courses → FitsResult result → FitBatch b
    → FitBatch (add_line b student rank ask result)
line-added b student rank ask result st few h r f = by_result result r
  where
    lines : (result : LineResult) → FitsResult result → FitsList FitsAnswered (add_line b student rank ask result).answered
    lines result r = each-one FitsAnswered b.answered (record { line = record { student = student; rank = rank; result = result }; ask = ask }) f.lines ((st, few, r), h)

    by_result : (result : LineResult) → FitsResult result → FitBatch (add_line b student rank ask result)
    by_result (Met choice) r = record { world = enrol-fits b.world f.world student choice (has-sections choice r); lines = lines (Met choice) r }
    by_result (Held course) r = record { world = f.world; lines = lines (Held course) r }
    by_result (Blocked visits tree) r = record { world = f.world; lines = lines (Blocked visits tree) r }
    by_result Spent r = record { world = f.world; lines = lines Spent r }
    by_result (Waiting ticket) r = record { world = f.world; lines = lines (Waiting ticket) r }
    by_result Skipped r = record { world = f.world; lines = lines Skipped r }

-- ---- all lines

one-longer : {X : Type 0} (xs : List X) (x : X) → length (xs ++ x ∷ []) ≡ length xs + 1
one-longer [] x = refl
one-longer (y ∷ ys) x = omega (arith, one-longer ys x)

module _ (w : World) where
  abbrev Known : StudentId → Type 0
  Known student = is_some (find_student w.students student) ≡ true

  asks-added : (asks : List (ℕ × Ask)) (b : Batched) (student : StudentId) → Known student → list_all (λ p. ask_fits w p.1) asks ≡ true → Goes w b
      → FitsStudent student → FitsList FitsPlaced asks → FitBatch b → FitBatch (batch_asks b student asks)
  asks-added [] b student known fits g st h f = f
  asks-added ((rank, Free pattern) ∷ asks) b student known fits g st h f = asks-added asks b student known fits g st h.1 f
  asks-added ((rank, asks_course ask) ∷ asks) b student known fits g st h f =
      let one = both-left (want_fits w (want_of ask 0)) (list_all (λ p. ask_fits w p.1) asks) fits in
      let rest = both-right (want_fits w (want_of ask 0)) (list_all (λ p. ask_fits w p.1) asks) fits in
      let grows = same-grows w b.world g.students g.rows in
      let result = answer-fits b g.world f.world student (grows.students student known) rank ask h.0.0 h.0.1 (want-stays w b.world grows (want_of ask 0) one) in
      asks-added asks (add_line b student rank ask (answer_to b student rank ask)) student known rest (line-goes w b student rank ask known one g) st h.1
      (line-added b student rank ask (answer_to b student rank ask) st h.0.0 h.0.1 result f)

  asks-count : (asks : List (ℕ × Ask)) (b : Batched) (student : StudentId) → length (batch_asks b student asks).answered ≤ length b.answered + length asks
  asks-count [] b student = omega arith
  asks-count ((rank, Free pattern) ∷ asks) b student = omega (arith, asks-count asks b student)
  asks-count ((rank, asks_course ask) ∷ asks) b student =
      omega (
        arith,
        asks-count asks (add_line b student rank ask (answer_to b student rank ask)) student,
        one-longer b.answered (record { line = record { student = student; rank = rank; result = answer_to b student rank ask }; ask = ask }),
      )

  enumerated : {X : Type 0} (n : ℕ) (xs : List X) → length (enumerate_from n xs) ≡ length xs
  enumerated n [] = refl
  enumerated n (x ∷ xs) = omega (arith, enumerated (n + 1) xs)

  students-added : (students : List StudentId) (b : Batched) → list_all (λ s. is_some (find_student w.students s)) students ≡ true → Goes w b → FitsList FitsStudent students → FitBatch b
      → FitBatch (batch_students b students) × (length (batch_students b students).answered ≤ length b.answered + 20 * length students)
  students-added [] b known g h f = (f, omega arith)
  students-added (student ∷ students) b known g h f =
      let asks : List Ask = asks_of b.world student in
      let fits = all-enumerate (ask_fits w) 1 asks (all-of (ask_fits w) asks (λ a m. ask-back w b g a (all-at (ask_fits b.world) asks (asks-fit b.world g.world student) a m))) in
      let one = both-left (is_some (find_student w.students student)) (list_all (λ s. is_some (find_student w.students s)) students) known in
      let few = few-asks b.world g.world student in
      let rest =
      students-added students (batch_asks b student (enumerate_from 1 asks)) (both-right (is_some (find_student w.students student)) (list_all (λ s. is_some (find_student w.students s)) students) known)
      (asks-go w (enumerate_from 1 asks) b student one fits g) h.1
      (asks-added (enumerate_from 1 asks) b student one fits g h.0 (numbered 1 asks (omega (arith, few)) (asked b.world f.world student)) f) in
      (rest.0, omega (arith, rest.1, asks-count (enumerate_from 1 asks) b student, enumerated 1 asks, few))

  batch-added : (students : List StudentId) → KeptWorld w → FitsWorld w → list_all (λ s. is_some (find_student w.students s)) students ≡ true → FitsList FitsStudent students
      → FitBatch (batch_of w students) × (length (batch_of w students).answered ≤ 20 * length students)
  unfolding batch_of
  batch-added students k f known h =
      let r = students-added students (record { world = w; answered = [] }) known (record { world = k; students = refl; rows = refl; fit = refl }) h (record { world = f; lines = tt }) in
      (r.0, omega (arith, r.1))

-- ---- who waits

pub more-state : (m n : ℕ) (s : State) → m ≤ n → FitsState m s → FitsState n s
more-state m n s h f = record {
  world = f.world;
  entries = each-more (FitsWaiting m) (FitsWaiting n) s.entries (λ e k. (k.0, omega (arith, h, k.1))) f.entries;
  next = omega (arith, h, f.next);
}

pub join-fits : (m : ℕ) (s : State) (student : StudentId) (want : Want) (give : Option CourseId) (class : ℕ) → WantsCourses want → FitsState m s → FitsState (m + 1) (join s student want give class)
join-fits m s student want give class h f =
    let g = more-state m (m + 1) s (omega arith) f in record {
      world = f.world;
      entries = each-one (FitsWaiting (m + 1)) s.entries (record { ticket = s.next; student = student; want = want; give = give; class = class }) g.entries (h, g.next);
      next = omega (arith, f.next);
    }

record FitJoined (m : ℕ) (j : Joined) : Type 0 where
  state : FitsState m j.state
  lines : FitsList FitsLine j.lines

line-joined : (m : ℕ) (j : Joined) (a : Answered) → m + 1 ≤ 18446744073709551615 → FitsAnswered a → FitJoined m j → FitJoined (m + 1) (join_line j a)
line-joined m j a small h f = by_test (is_unmet a.line.result && a.ask.wait)
  where
    up : FitsState (m + 1) j.state
    up = more-state m (m + 1) j.state (omega arith) f.state

    waits : (ticket : ℕ) → ticket ≤ m → FitsList FitsLine (j.lines ++ record { student = a.line.student; rank = a.line.rank; result = Waiting ticket } ∷ [])
    waits ticket k = each-one FitsLine j.lines (record { student = a.line.student; rank = a.line.rank; result = Waiting ticket }) f.lines (h.0.0, h.0.1, omega (arith, k, small))

    by_ticket : (o : Option ℕ) → FitsOptional (λ n. n ≤ m) o → FitJoined (m + 1) (join_by j a o)
    by_ticket (Some ticket) k = record { state = up; lines = waits ticket k }
    by_ticket None k = record { state = join-fits m j.state a.line.student (want_of a.ask a.line.rank) None 5 h.1 f.state; lines = waits j.state.next f.state.next }

    by_test : (b : Bool) → FitJoined (m + 1) (cond b (join_by j a (ticket_of j.state a.line.student a.ask.courses)) (record j { lines = j.lines ++ a.line ∷ [] }))
    by_test true = by_ticket (ticket_of j.state a.line.student a.ask.courses) (ticket-fits j.state m f.state a.line.student a.ask.courses)
    by_test false = record { state = up; lines = each-one FitsLine j.lines a.line f.lines h.0 }

lines-joined : (answered : List Answered) (m n : ℕ) (j : Joined) → m + length answered ≤ n → n ≤ 18446744073709551615 → FitsList FitsAnswered answered → FitJoined m j → FitJoined n (join_lines j answered)
lines-joined [] m n j few small h f = record { state = more-state m n j.state (omega (arith, few)) f.state; lines = f.lines }
lines-joined (a ∷ rest) m n j few small h f = lines-joined rest (m + 1) n (join_line j a) (omega (arith, few)) small h.1 (line-joined m j a (omega (arith, few, small)) h.0 f)

-- a batch of at most 100 students
pub batch-fits : (s : State) (most : ℕ) (students : List StudentId) → KeptWorld s.world → FitsState most s → most + 2000 ≤ 18446744073709551615
    → list_all (λ i. is_some (find_student s.world.students i)) students ≡ true → FitsList FitsStudent students → length students ≤ 100
    → let b = batch_of s.world students in let j = join_lines (record { state = record s { world = b.world }; lines = [] }) b.answered in FitsState (most + 2000) j.state × FitsList FitsLine j.lines
batch-fits s most students k f small known h few =
    let b = batch-added s.world students k f.world known h in
    let batch : Batched = batch_of s.world students in
    let joined =
    lines-joined batch.answered most (most + 2000) (record { state = record s { world = batch.world }; lines = [] }) (omega (arith, b.1, few)) small b.0.lines
    (record { state = record { world = b.0.world; entries = f.entries; next = f.next }; lines = tt }) in
    (joined.state, joined.lines)
