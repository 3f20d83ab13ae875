-- A batch keeps what the world keeps, and its lines are of known students with wants that fit.
use Rattle.std.specs.Prelude.{◌≡◌, ℕ, Bool, true, false, not, ◌&&◌, ◌||◌, ◌==◌, nat_lt, nat_le, List, [], ◌∷◌, ◌++◌, length, find, Option, Some, None, refl, IsTrue, cond, ◌+◌}
use Rattle.std.specs.List.{list_any, list_all, enumerate_from}
use Rattle.std.specs.Bool.{then_some}
use Rattle.std.specs.Option.{is_some, is_none, option_map, option_map_or, option_or}
use Rattle.std.proofs.Common.{sym, ◌∙◌, ap, subst, arith, inl, inr}
use Rattle.std.proofs.lemmas.Bool.Decides.{nat_tests}
use Rattle.sect_base.specs.Capped.{capped}
use Rattle.sect_people.specs.Student.{find_student}
use Rattle.sect_people.specs.Fault as requests
use Rattle.sect_people.specs.declared.row.Ask.TheVariants.{Course as asks_course, Free}
use Rattle.sect_people.specs.declared.row.RequestFault.TheVariants.{UnknownCourse, Twice, TooMany}
use Rattle.sect_catalog.specs.Catalogue.{find_course, all_courses}
use Rattle.sect_command.specs.declared.reply.LineResult.{LineResult}
use Rattle.sect_command.specs.declared.reply.LineResult.TheVariants.{Met, Held, Blocked, Spent, Waiting, Skipped}
use Rattle.sect_model.specs.Data.{StudentId, CourseId, Want, Ask, CourseAsk, Choice, Move, Outcome, Student}
use Rattle.sect_model.specs.declared.pick.Outcome.TheVariants.{Found, Blocked as blocked, Spent as spent}
use Rattle.sect_model.specs.World.{World, State, course_ids, enrol, holds, offering_of}
use Rattle.sect_model.specs.Allowed.{is_allowed}
use Rattle.sect_model.specs.Move.{are_allowed}
use Rattle.sect_model.specs.Outcome.{outcome_of}
use Rattle.sect_model.specs.Settle.{found_in}
use Rattle.sect_model.specs.Batch.{Batched, Answered, Joined, batch_of, batch_students, batch_asks, add_line, answer_to, held_or, skipped_or, is_skipped, search_for, result_of, want_of, asks_of, join_lines, join_line, join_by, join, ticket_of, is_unmet}
use Rattle.sect_model.specs.Premises.{courses_known, is_sized, want_fits}
use Rattle.sect_model.specs.Kept.{KeptWorld, KeptState, asks_pass, entry_fits}
use Rattle.sect_model.proofs.Members
use Rattle.sect_model.proofs.Members.{Member, all-at, all-of, both, both-left, both-right, not_both, not_true}
use Rattle.sect_model.proofs.EnrolLeave.{enrol-keeps}
use Rattle.sect_model.proofs.KeptMoves.{found-allowed}
use Rattle.sect_model.proofs.Easy.{all-one}
use Rattle.sect_model.proofs.OfferingChange.{none-left, none-right, none-map}
use Rattle.sect_model.proofs.TicketLemmas.{rise-join}
use Rattle.sect_model.proofs.GrowLemmas.{same-grows, want-stays}
use Rattle.sect_model.proofs.Accepted.{course-offering}
use Rattle.std.proofs.lemmas.Bool.{not-false}

-- ---- requests that passed their check

-- a course request's want fits
abbrev pub ask_fits : World → Ask → Bool
ask_fits w (asks_course ask) = want_fits w (want_of ask 0)
ask_fits w (Free pattern) = true

pub none-find : {X : Type 0} (p : X → Bool) (xs : List X) → is_none (find p xs) ≡ true → (x : X) → Member xs x → p x ≡ false
none-find p xs h x m = no (p x) refl
  where
    no : (b : Bool) → p x ≡ b → b ≡ false
    no true t = absurd (not_both (is_some (find p xs)) (Members.find-some p xs x m t) (not_true _ h))
    no false t = refl

-- a course of the catalogue's is found
listed-course : (w : World) (c : CourseId) → list_any (λ k. k.0 == c.0) (course_ids w) ≡ true → is_some (find_course w.catalogue.rows c) ≡ true
listed-course w c h =
    let a = Members.any-at (λ k. k.0 == c.0) (course_ids w) h in
    let b = Members.member-map (λ c. c.id) (all_courses w.catalogue.rows) a.0 a.1 in
    Members.find-some (λ x. x.id.0 == c.0) (all_courses w.catalogue.rows) b.0 b.1 (ap (λ k. k.0 == c.0) b.2 ∙ a.2)

in_bounds : (n : ℕ) → nat_lt 6 n || n == 0 ≡ false → nat_le 1 n && nat_le n 6 ≡ true
in_bounds n h =
    both (nat_le 1 n) (nat_le n 6) (some n (Members.neither-right (nat_lt 6 n) (n == 0) h)) (few n (Members.neither-left (nat_lt 6 n) (n == 0) h))
  where
    some : (n : ℕ) → n == 0 ≡ false → nat_le 1 n ≡ true
    some n h = grind (arith, nat_tests, h)

    few : (n : ℕ) → nat_lt 6 n ≡ false → nat_le n 6 ≡ true
    few n h = grind (arith, nat_tests, h)

pub not_said : {X : Type 0} (b : Bool) (x : X) → is_none (then_some b x) ≡ true → b ≡ false
not_said true x h = absurd (not_both false h refl)
not_said false x h = refl

good-length : (asks : List Ask) → is_none (requests.first_bad_length asks) ≡ true → (ask : CourseAsk) → Member asks (asks_course ask) → nat_le 1 (length ask.courses) && nat_le (length ask.courses) 6 ≡ true
good-length [] h ask m = absurd m
good-length (a ∷ asks) h ask (inl e) =
    in_bounds (length ask.courses) (not_said _ (length ask.courses) (ap (λ x. is_none (requests.bad_length x)) (sym e) ∙ none-left (requests.bad_length a) (requests.first_bad_length asks) h))
good-length (a ∷ asks) h ask (inr m) = good-length asks (none-right (requests.bad_length a) (requests.first_bad_length asks) h) ask m

passed-ask : (w : World) (asks : List Ask) → is_none (requests.fault_of asks (course_ids w)) ≡ true → (a : Ask) → Member asks a → ask_fits w a ≡ true
passed-ask w asks h (Free pattern) m = refl
passed-ask w asks h (asks_course ask) m =
    let known : List CourseId = course_ids w in
    let all : List CourseId = requests.courses_of_all asks in
    let unknown = find (λ c. not (list_any (λ k. k.0 == c.0) known)) all in
    let first = none-left (option_map (λ c. UnknownCourse c.0) unknown) _ h in
    let rest = none-right (option_map (λ c. UnknownCourse c.0) unknown) _ h in
    let sizes = none-right (option_map Twice (requests.repeated_after [] all)) _ rest in
    let lengths = none-right (then_some (nat_lt 20 (length asks)) (length asks)) (requests.first_bad_length asks)
    (sym (none-map (λ n. TooMany (capped n)) (option_or (then_some (nat_lt 20 (length asks)) (length asks)) (requests.first_bad_length asks))) ∙ sizes) in
    both (courses_known w (want_of ask 0) && true) (is_sized (want_of ask 0))
    (both (courses_known w (want_of ask 0)) true
    (all-of (λ c. is_some (offering_of w c)) ask.courses (λ c n.
    course-offering w c (listed-course w c (not-false _ (none-find (λ c. not (list_any (λ k. k.0 == c.0) known)) all (sym (none-map (λ c. UnknownCourse c.0) unknown) ∙ first) c
    (Members.member-of_flat_map requests.courses_of asks (asks_course ask) c m n)))))) refl)
    (good-length asks lengths ask m)

-- the requests of a student of a good world
pub asks-fit : (w : World) → KeptWorld w → (student : StudentId) → list_all (ask_fits w) (asks_of w student) ≡ true
asks-fit w k student = by_found (find_student w.students student) refl
  where
    by_found : (o : Option Student) → find_student w.students student ≡ o → list_all (ask_fits w) (option_map_or (λ s. s.asks) o []) ≡ true
    by_found None e = refl
    by_found (Some s) e =
        all-of (ask_fits w) s.asks (passed-ask w s.asks (all-at (asks_pass w) w.students k.asks_pass s (Members.find-member (λ s. s.row.id.0 == student.0) w.students s e).0))

pub all-enumerate : {X : Type 0} (test : X → Bool) (n : ℕ) (xs : List X) → list_all test xs ≡ true → list_all (λ p. test p.1) (enumerate_from n xs) ≡ true
all-enumerate test n [] h = refl
all-enumerate test n (x ∷ xs) h = both (test x) (list_all (λ p. test p.1) (enumerate_from (n + 1) xs)) (both-left (test x) (list_all test xs) h) (all-enumerate test (n + 1) xs (both-right (test x) (list_all test xs) h))

-- ---- what a line meets is allowed

met-found : (w : World) (student : StudentId) (want : Want) (choice : Choice) (o : Outcome)
    → outcome_of w (record { student = student; give = []; take = want ∷ [] }) 2000 ≡ o → result_of o ≡ Met choice → is_allowed w student want choice ≡ true
met-found w student want choice (Found [] visits) e h = cc
met-found w student want choice (Found (c ∷ cs) visits) e h =
    let mv : Move = record { student = student; give = []; take = want ∷ [] } in
    let same : c ≡ choice = cc in
    subst (λ x. is_allowed w student want x ≡ true) same
    (both-left (is_allowed w student want c) (are_allowed (enrol w student c) student [] cs) (found-allowed w mv 2000 (c ∷ cs) (ap found_in e)))
met-found w student want choice (blocked tree visits) e h = cc
met-found w student want choice (spent budget) e h = cc

met-allowed : (b : Batched) (student : StudentId) (rank : ℕ) (ask : CourseAsk) (choice : Choice) → answer_to b student rank ask ≡ Met choice → is_allowed b.world student (want_of ask rank) choice ≡ true
met-allowed b student rank ask choice h = by_held (find (holds b.world student) ask.courses) h
  where
    by_skip : (skip : Bool) → skipped_or (λ _. search_for b.world student ask rank) skip ≡ Met choice → is_allowed b.world student (want_of ask rank) choice ≡ true
    by_skip true h = cc
    by_skip false h = met-found b.world student (want_of ask rank) choice (outcome_of b.world (record { student = student; give = []; take = want_of ask rank ∷ [] }) 2000) refl h

    by_held : (o : Option CourseId) → held_or (λ _. skipped_or (λ _. search_for b.world student ask rank) (is_skipped b student ask)) o ≡ Met choice → is_allowed b.world student (want_of ask rank) choice ≡ true
    by_held None h = by_skip (is_skipped b student ask) h
    by_held (Some course) h = cc

-- ---- the lines of a batch

abbrev pub answered_fits : World → Answered → Bool
answered_fits w a = is_some (find_student w.students a.line.student) && want_fits w (want_of a.ask 0)

-- the world is good, of the same students and rows, and the lines fit
pub record Goes (w : World) (b : Batched) : Type 0 where
  pub world : KeptWorld b.world
  pub students : b.world.students ≡ w.students
  pub rows : b.world.catalogue.rows ≡ w.catalogue.rows
  pub fit : IsTrue (list_all (answered_fits w) b.answered)

module _ (w : World) where
  abbrev KnownStudent : StudentId → Type 0
  KnownStudent student = is_some (find_student w.students student) ≡ true

  pub line-goes : (b : Batched) (student : StudentId) (rank : ℕ) (ask : CourseAsk) → KnownStudent student → want_fits w (want_of ask 0) ≡ true → Goes w b → Goes w (add_line b student rank ask (answer_to b student rank ask))
  line-goes b student rank ask known fits g = by_result (answer_to b student rank ask) refl
    where
      lines : (result : LineResult) → list_all (answered_fits w) (add_line b student rank ask result).answered ≡ true
      lines result =
          all-one (answered_fits w) b.answered (record { line = record { student = student; rank = rank; result = result }; ask = ask }) g.fit
          (both (is_some (find_student w.students student)) (want_fits w (want_of ask 0)) known fits)

      by_result : (result : LineResult) → answer_to b student rank ask ≡ result → Goes w (add_line b student rank ask result)
      by_result (Met choice) e = record {
        world = enrol-keeps b.world student (want_of ask rank) choice (ap (λ ss. is_some (find_student ss student)) g.students ∙ known) (met-allowed b student rank ask choice e) g.world;
        students = g.students;
        rows = g.rows;
        fit = lines (Met choice);
      }
      by_result (Held course) e = record { world = g.world; students = g.students; rows = g.rows; fit = lines (Held course) }
      by_result (Blocked visits tree) e = record { world = g.world; students = g.students; rows = g.rows; fit = lines (Blocked visits tree) }
      by_result Spent e = record { world = g.world; students = g.students; rows = g.rows; fit = lines Spent }
      by_result (Waiting ticket) e = record { world = g.world; students = g.students; rows = g.rows; fit = lines (Waiting ticket) }
      by_result Skipped e = record { world = g.world; students = g.students; rows = g.rows; fit = lines Skipped }

  pub asks-go : (asks : List (ℕ × Ask)) (b : Batched) (student : StudentId) → KnownStudent student → list_all (λ p. ask_fits w p.1) asks ≡ true → Goes w b → Goes w (batch_asks b student asks)
  asks-go [] b student known fits g = g
  asks-go ((rank, Free pattern) ∷ asks) b student known fits g = asks-go asks b student known fits g
  asks-go ((rank, asks_course ask) ∷ asks) b student known fits g =
      asks-go asks (add_line b student rank ask (answer_to b student rank ask)) student known (both-right (want_fits w (want_of ask 0)) (list_all (λ p. ask_fits w p.1) asks) fits)
      (line-goes b student rank ask known (both-left (want_fits w (want_of ask 0)) (list_all (λ p. ask_fits w p.1) asks) fits) g)

  -- requests that fit the batch's world fit the world before it
  pub ask-back : (b : Batched) → Goes w b → (a : Ask) → ask_fits b.world a ≡ true → ask_fits w a ≡ true
  ask-back b g (Free pattern) h = refl
  ask-back b g (asks_course ask) h = want-stays b.world w (same-grows b.world w (sym g.students) (sym g.rows)) (want_of ask 0) h

  students-go : (students : List StudentId) (b : Batched) → list_all (λ s. is_some (find_student w.students s)) students ≡ true → Goes w b → Goes w (batch_students b students)
  students-go [] b known g = g
  students-go (student ∷ students) b known g =
      let asks : List Ask = asks_of b.world student in
      students-go students (batch_asks b student (enumerate_from 1 asks)) (both-right (is_some (find_student w.students student)) _ known)
      (asks-go (enumerate_from 1 asks) b student (both-left _ _ known)
      (all-enumerate (ask_fits w) 1 asks (all-of (ask_fits w) asks (λ a m. ask-back b g a (all-at (ask_fits b.world) asks (asks-fit b.world g.world student) a m)))) g)

  pub batch-goes : (students : List StudentId) → KeptWorld w → list_all (λ s. is_some (find_student w.students s)) students ≡ true → Goes w (batch_of w students)
  unfolding batch_of
  batch-goes students k known = students-go students (record { world = w; answered = [] }) known (record { world = k; students = refl; rows = refl; fit = refl })

-- ---- the lines that wait

pub join-keeps : (s : State) (student : StudentId) (want : Want) (give : Option CourseId) (class : ℕ) → is_some (find_student s.world.students student) ≡ true → want_fits s.world want ≡ true
    → KeptState s → KeptState (join s student want give class)
join-keeps s student want give class known fits k = record {
  world = k.world;
  in_order = rise-join s.entries (record { ticket = s.next; student = student; want = want; give = give; class = class }) k.in_order;
  entries_fit = all-one (entry_fits s.world) s.entries (record { ticket = s.next; student = student; want = want; give = give; class = class }) k.entries_fit
      (both (is_some (find_student s.world.students student)) (want_fits s.world want) known fits);
}

join_line-keeps : (j : Joined) (a : Answered) → answered_fits j.state.world a ≡ true → KeptState j.state → KeptState (join_line j a).state × ((join_line j a).state.world ≡ j.state.world)
join_line-keeps j a fits k = by_test (is_unmet a.line.result && a.ask.wait)
  where
    by_ticket : (o : Option ℕ) → KeptState (join_by j a o).state × ((join_by j a o).state.world ≡ j.state.world)
    by_ticket (Some ticket) = (k, refl)
    by_ticket None = (
      join-keeps j.state a.line.student (want_of a.ask a.line.rank) None 5 (both-left _ (want_fits j.state.world (want_of a.ask 0)) fits)
          (both-right (is_some (find_student j.state.world.students a.line.student)) _ fits) k,
      refl,
    )

    by_test : (b : Bool) → KeptState (cond b (join_by j a (ticket_of j.state a.line.student a.ask.courses)) (record j { lines = j.lines ++ a.line ∷ [] })).state
        × ((cond b (join_by j a (ticket_of j.state a.line.student a.ask.courses)) (record j { lines = j.lines ++ a.line ∷ [] })).state.world ≡ j.state.world)
    by_test true = by_ticket (ticket_of j.state a.line.student a.ask.courses)
    by_test false = (k, refl)

pub join_lines-keep : (answered : List Answered) (j : Joined) → list_all (answered_fits j.state.world) answered ≡ true → KeptState j.state → KeptState (join_lines j answered).state
join_lines-keep [] j fits k = k
join_lines-keep (a ∷ rest) j fits k =
    let one = join_line-keeps j a (both-left _ _ fits) k in
    join_lines-keep rest (join_line j a) (ap (λ u. list_all (answered_fits u) rest) one.1 ∙ both-right (answered_fits j.state.world a) _ fits) one.0
