-- The commands of the requests' table lead to the students' requests.
use Rattle.std.specs.Prelude.{◌≡◌, ℕ, max, Bool, true, false, not, ◌||◌, ◌==◌, nat_lt, cond, List, [], ◌∷◌, ◌++◌, length, map, flat_map, Option, Some, None, refl}
use Rattle.std.specs.Bool.{then_some}
use Rattle.std.specs.List.{list_all, list_any}
use Rattle.std.specs.Option.{is_none, is_some, option_map, option_or}
use Rattle.std.proofs.Common.{sym, ◌∙◌, ap, subst, append_assoc, inl}
use Rattle.std.proofs.lemmas.Bool.{eq-eqb}
use Rattle.std.proofs.lemmas.List.{map-append}
use Rattle.sect_base.specs.Capped.{capped}
use Rattle.sect_catalog.specs.Catalogue.{all_courses}
use Rattle.sect_command.specs.declared.command.Command.TheVariants as commands
use Rattle.sect_command.specs.declared.reply.Refusal.{Refusal}
use Rattle.sect_command.specs.declared.reply.Refusal.TheVariants.{Row, Unknown}
use Rattle.sect_command.specs.declared.reply.Reply.TheVariants.{Amended}
use Rattle.sect_command.specs.declared.reply.RowFault.TheVariants.{Request as request_fault}
use Rattle.sect_model.proofs.ListLemmas.{any-sorted}
use Rattle.sect_model.proofs.Members
use Rattle.sect_model.proofs.Members.{both-left, both-right, neither-left, neither-right, not_both}
use Rattle.sect_model.proofs.TurnLemmas.{any-append}
use Rattle.sect_model.specs.Data.{Ask, CourseId, CourseRow, OfferingRow, Student, StudentId, StudentRow}
use Rattle.sect_model.specs.Refusals.{refusal_of, unknown_student}
use Rattle.sect_people.specs.Changes.{with_asks}
use Rattle.sect_people.specs.Fault.{courses_of_all, fault_of, first_bad_length, is_unknown, repeated_after}
use Rattle.sect_people.specs.Order.{all_differ, sorted_by}
use Rattle.sect_people.specs.declared.row.RequestFault.{RequestFault}
use Rattle.sect_people.specs.declared.row.RequestFault.TheVariants.{TooMany as many_asked, Twice, UnknownCourse}
use Rattle.sect_people.specs.Student.{find_student}
use Rattle.sect_return.specs.Again.{registrar}
use Rattle.sect_return.specs.Asked.{asks_requests, asks_view}
use Rattle.sect_return.proofs.Checks.{find_same}
use Rattle.sect_return.proofs.Runs.{Runs, amends, none_is, none_said, quiet, runs_append, world_with}
use Rattle.sect_return.proofs.Sorted.{any_mapped, apart_middle}
use Rattle.sect_return.proofs.StudentsAgain.{fresh}

-- the ids of the courses of rows
abbrev courses_in : List OfferingRow → List CourseId
courses_in rows = map (λ c. c.id) (all_courses rows)

-- ---- one command

-- the requests of a student stand where the student stands
others_stay : (student : StudentId) (asks : List Ask) (ss : List Student) → list_any (λ s. s.row.id.0 == student.0) ss ≡ false
    → map (with_asks student asks) ss ≡ ss
others_stay student asks [] none = refl
others_stay student asks (s ∷ ss) none = λ i.
    cond (neither-left (s.row.id.0 == student.0) (list_any (λ x. x.row.id.0 == student.0) ss) none i) (record s { asks = asks }) s
    ∷ others_stay student asks ss (neither-right (s.row.id.0 == student.0) (list_any (λ x. x.row.id.0 == student.0) ss) none) i

put_middle : (row : StudentRow) (asks : List Ask) (before rest : List Student) → list_any (λ s. s.row.id.0 == row.id.0) before ≡ false
    → list_any (λ s. s.row.id.0 == row.id.0) rest ≡ false
    → map (with_asks row.id asks) (before ++ fresh row ∷ rest) ≡ before ++ record { row = row; asks = asks } ∷ rest
put_middle row asks before rest none nor =
    map-append (with_asks row.id asks) before (fresh row ∷ rest)
    ∙ (λ i. others_stay row.id asks before none i ++ cond (eq-eqb row.id.0 row.id.0 refl i) (record { row = row; asks = asks })
    (fresh row) ∷ others_stay row.id asks rest nor i)

two_none : (a b : Option Refusal) → a ≡ None → b ≡ None → option_or a (option_or b None) ≡ None
two_none a b p q = λ i. option_or (p i) (option_or (q i) None)

-- a known student whose requests have no fault
not_refused : (rows : List OfferingRow) (day : ℕ) (students : List Student) (student : StudentId) (asks : List Ask)
    → is_some (find_student students student) ≡ true → fault_of asks (courses_in rows) ≡ None
    → refusal_of (quiet (world_with day rows students [])) registrar (commands.Requests student asks) ≡ None
unfolding refusal_of
not_refused rows day students student asks known faultless =
    two_none (unknown_student (world_with day rows students []) student) (option_map (λ f. Row (request_fault f)) (fault_of asks (courses_in rows)))
    (none_said (is_none (find_student students student)) (Unknown student.0) (some_none (find_student students student) known))
    (ap (option_map (λ f. Row (request_fault f))) faultless)
  where
    some_none : {X : Type 0} (o : Option X) → is_some o ≡ true → is_none o ≡ false
    some_none None h = absurd (not_both false h refl)
    some_none (Some x) h = refl

-- one student's requests, if there are any
one_student : (rows : List OfferingRow) (start day : ℕ) (row : StudentRow) (asks : List Ask) (before rest : List Student)
    → is_none (fault_of asks (courses_in rows)) ≡ true
    → list_any (λ s. s.row.id.0 == row.id.0) before ≡ false → list_any (λ s. s.row.id.0 == row.id.0) rest ≡ false
    → (last : ℕ) × Runs (world_with start rows (before ++ fresh row ∷ rest) []) day (asks_requests row.id asks)
    (world_with last rows (before ++ record { row = row; asks = asks } ∷ rest) [])
one_student rows start day row [] before rest faultless none nor = (start, refl)
one_student rows start day row (ask ∷ asks) before rest faultless none nor = (
  max start day,
  (
    world_with (max start day) rows (before ++ record { row = row; asks = ask ∷ asks } ∷ rest) [],
    amends (world_with start rows (before ++ fresh row ∷ rest) []) day (commands.Requests row.id (ask ∷ asks))
        (world_with (max start day) rows (before ++ record { row = row; asks = ask ∷ asks } ∷ rest) [])
        (not_refused rows (max start day) (before ++ fresh row ∷ rest) row.id (ask ∷ asks)
        (Members.find-some (λ (s : Student). s.row.id.0 == row.id.0) (before ++ fresh row ∷ rest) (fresh row)
        (Members.member-right before (fresh row ∷ rest) (fresh row) (inl refl)) (eq-eqb row.id.0 row.id.0 refl))
        (none_is (fault_of (ask ∷ asks) (courses_in rows)) faultless))
        (ap (λ students. record { state = quiet (world_with (max start day) rows students []); reply = Amended })
        (put_middle row (ask ∷ asks) before rest none nor)),
    refl,
  ),
)

-- ---- all commands

abbrev rows_of : List Student → List Student
rows_of ss = map fresh (map (λ s. s.row) ss)

-- students without requests have the ids of the students
bare_any : (n : ℕ) (ss : List Student) → list_any (λ s. s.row.id.0 == n) (rows_of ss) ≡ list_any (λ s. s.row.id.0 == n) ss
bare_any n ss = any_mapped (λ (s : Student). s.row.id.0 == n) fresh (map (λ (s : Student). s.row) ss)
    ∙ any_mapped (λ (r : StudentRow). r.id.0 == n) (λ (s : Student). s.row) ss

-- the requests of students, of which no two have one id, where none has a fault
pub requests_run : (rows : List OfferingRow) (rest before : List Student) (start day : ℕ)
    → list_all (λ s. is_none (fault_of s.asks (courses_in rows))) rest ≡ true
    → all_differ (map (λ s. s.row.id.0) (before ++ rest)) ≡ true
    → (last : ℕ) × Runs (world_with start rows (before ++ map fresh (map (λ s. s.row) rest)) []) day
    (flat_map asks_view (map (λ s. record { student = s.row.id; asks = s.asks }) rest))
    (world_with last rows (before ++ rest) [])
requests_run rows [] before start day faultless differ = (start, refl)
requests_run rows (s ∷ rest) before start day faultless differ =
    let joined = append_assoc before (s ∷ []) rest in
    let apart = apart_middle (λ (x : Student). x.row.id.0) before s rest differ in
    let one = one_student rows start day s.row s.asks before (rows_of rest)
    (both-left (is_none (fault_of s.asks (courses_in rows))) (list_all (λ (x : Student). is_none (fault_of x.asks (courses_in rows))) rest) faultless)
    apart.0 (bare_any s.row.id.0 rest ∙ apart.1) in
    let more = requests_run rows rest (before ++ s ∷ []) one.0 day
    (both-right (is_none (fault_of s.asks (courses_in rows))) (list_all (λ (x : Student). is_none (fault_of x.asks (courses_in rows))) rest) faultless)
    (subst (λ its. all_differ (map (λ (x : Student). x.row.id.0) its) ≡ true) (sym joined) differ) in
    let commands_behind = flat_map asks_view (map (λ (x : Student). record { student = x.row.id; asks = x.asks }) rest) in (
      more.0,
      runs_append (asks_requests s.row.id s.asks) commands_behind (world_with start rows (before ++ fresh s.row ∷ rows_of rest) [])
          (world_with one.0 rows (before ++ s ∷ rows_of rest) []) (world_with more.0 rows (before ++ s ∷ rest) []) day
          one.1
          (subst (λ its. Runs (world_with one.0 rows its []) day commands_behind (world_with more.0 rows (before ++ s ∷ rest) []))
          (append_assoc before (s ∷ []) (rows_of rest))
          (subst (λ its. Runs (world_with one.0 rows ((before ++ s ∷ []) ++ rows_of rest) []) day commands_behind
          (world_with more.0 rows its [])) joined more.1)),
    )

-- ---- courses of rows in order

-- whether a course is among those of rows
course_any : (test : CourseId → Bool) (rows : List OfferingRow) → list_any test (courses_in rows) ≡ list_any (λ o. list_any (λ c. test c.id) o.courses) rows
course_any test [] = refl
course_any test (o ∷ os) =
    any_mapped test (λ (c : CourseRow). c.id) (all_courses (o ∷ os))
    ∙ any-append (λ (c : CourseRow). test c.id) o.courses (all_courses os)
    ∙ ap (λ b. list_any (λ (c : CourseRow). test c.id) o.courses || b) (sym (any_mapped test (λ (c : CourseRow). c.id) (all_courses os)) ∙ course_any test os)

-- requests have the same fault for the courses of the rows in order
pub sorted_fault : (rows : List OfferingRow) (asks : List Ask)
    → is_none (fault_of asks (courses_in (sorted_by (λ o. o.id.0) rows))) ≡ is_none (fault_of asks (courses_in rows))
sorted_fault rows asks = ap (λ unknown. is_none (option_or (option_map (λ (c : CourseId). UnknownCourse c.0) unknown) (others asks)))
    (find_same (is_unknown (courses_in (sorted_by (λ o. o.id.0) rows))) (is_unknown (courses_in rows)) (courses_of_all asks) (λ c.
    ap not (course_any (λ k. k.0 == c.0) (sorted_by (λ o. o.id.0) rows)
    ∙ any-sorted (λ (o : OfferingRow). o.id.0) (λ o. list_any (λ x. x.id.0 == c.0) o.courses) rows ∙ sym (course_any (λ k. k.0 == c.0) rows))))
  where
    others : List Ask → Option RequestFault
    others asks =
        option_or (option_map Twice (repeated_after [] (courses_of_all asks)))
        (option_map (λ n. many_asked (capped n)) (option_or (then_some (nat_lt 20 (length asks)) (length asks)) (first_bad_length asks)))
