-- The commands of the students' table lead to the students' rows.
use Rattle.std.specs.Prelude.{◌≡◌, ℕ, ◌+◌, ◌<◌, ◌≤◌, Bool, true, false, ◌&&◌, ◌==◌, nat_le, nat_lt, cond, List, [], ◌∷◌, ◌++◌, length, map, Option, None, refl, max}
use Rattle.std.specs.List.{list_all, list_any}
use Rattle.std.specs.Option.{is_none, is_some, option_or}
use Rattle.std.proofs.Common.{sym, ◌∙◌, ap, subst, arith, append_assoc, append-nil, length-append}
use Rattle.std.proofs.lemmas.Bool.{leb-true}
use Rattle.std.proofs.lemmas.Bool.Decides.{nat_tests}
use Rattle.std.proofs.lemmas.List.{length-map, map-append}
use Rattle.std.proofs.lemmas.List.Folds.{list_all-map}
use Rattle.sect_base.specs.Capped.{capped}
use Rattle.sect_command.specs.declared.command.Command.TheVariants.{Student as student_row}
use Rattle.sect_command.specs.declared.reply.Refusal.{Refusal}
use Rattle.sect_command.specs.declared.reply.Refusal.TheVariants.{LimitBelow, TooMany}
use Rattle.sect_command.specs.declared.reply.Reply.TheVariants.{Amended}
use Rattle.sect_command.specs.declared.view.Table.TheVariants as tables
use Rattle.sect_command.specs.declared.view.View.TheVariants.{Students}
use Rattle.sect_history.proofs.Histories.{replays-good}
use Rattle.sect_history.specs.Step.{state_of}
use Rattle.sect_model.proofs.ListLemmas.{all-sorted, any-find}
use Rattle.sect_model.proofs.Members.{both-left, both-right, not_both}
use Rattle.sect_model.specs.Data.{OfferingRow, Student, StudentRow}
use Rattle.sect_model.specs.Refusals.{credits_above, many_students, refusal_of, too_many}
use Rattle.sect_model.specs.Look.{rows_view, students_by_id}
use Rattle.sect_model.specs.World.{World}
use Rattle.sect_people.specs.Changes.{with_row}
use Rattle.sect_people.specs.Order.{all_differ, insert_by, sorted_by}
use Rattle.sect_people.specs.Student.{find_student}
use Rattle.sect_return.specs.Again.{Returns, StudentsReturn, registrar}
use Rattle.sect_return.specs.Asked.{asks_student}
use Rattle.sect_return.specs.Checked.{has_few, is_few}
use Rattle.sect_return.proofs.Ascending.{ascends, ascends_sorted, sorted_stays}
use Rattle.sect_return.proofs.Histories.{states_are_checked}
use Rattle.sect_return.proofs.Runs.{Amends, Runs, amends, none_said, quiet, runs_give, world_with}
use Rattle.sect_return.proofs.Sorted.{any_mapped, apart_middle, differ_sorted}

-- a student without requests
abbrev pub fresh : StudentRow → Student
fresh row = record { row = row; asks = [] }

fresh_ids : (rows : List StudentRow) → map (λ (s : Student). s.row.id.0) (map fresh rows) ≡ map (λ (r : StudentRow). r.id.0) rows
fresh_ids [] = refl
fresh_ids (row ∷ rows) = ap (λ ids. row.id.0 ∷ ids) (fresh_ids rows)

-- ---- one command

within : (most n : ℕ) → nat_le n most ≡ true → nat_lt most n ≡ false
within most n h = grind (arith, nat_tests)

not_below : (n : ℕ) → nat_lt n 0 ≡ false
not_below n = grind (arith, nat_tests)

room : (n : ℕ) → n < 50000 → nat_le 50000 n ≡ false
room n h = grind (arith, nat_tests, h)

and_room : (a b : Bool) → b ≡ false → (a && b) ≡ false
and_room true b e = e
and_room false b e = refl

four_none : (a b c d : Option Refusal) → a ≡ None → b ≡ None → c ≡ None → d ≡ None → option_or a (option_or b (option_or c (option_or d None))) ≡ None
four_none a b c d p q r s = λ i. option_or (p i) (option_or (q i) (option_or (r i) (option_or (s i) None)))

not_refused : (rows : List OfferingRow) (day : ℕ) (students : List Student) (row : StudentRow) → length students < 50000 → is_few row ≡ true
    → refusal_of (quiet (world_with day rows students [])) registrar (student_row row) ≡ None
unfolding refusal_of
not_refused rows day students row small few =
    let w : World = world_with day rows students [] in
    four_none (many_students w row) (too_many 50 (length row.groups)) (too_many 10 (length row.curricula)) (credits_above w row)
    (none_said (is_none (find_student students row.id) && nat_le 50000 (length students)) (TooMany 50001)
    (and_room (is_none (find_student students row.id)) (nat_le 50000 (length students)) (room (length students) small)))
    (none_said (nat_lt 50 (length row.groups)) (TooMany (capped (length row.groups)))
    (within 50 (length row.groups) (both-left (nat_le (length row.groups) 50) (nat_le (length row.curricula) 10) few)))
    (none_said (nat_lt 10 (length row.curricula)) (TooMany (capped (length row.curricula)))
    (within 10 (length row.curricula) (both-right (nat_le (length row.groups) 50) (nat_le (length row.curricula) 10) few)))
    (none_said (nat_lt row.max_credits 0) (LimitBelow (capped 0)) (not_below row.max_credits))

-- a new student stands behind the others
one_more : (rows : List OfferingRow) (start day : ℕ) (before : List StudentRow) (row : StudentRow) → length before < 50000 → is_few row ≡ true
    → list_any (λ r. r.id.0 == row.id.0) before ≡ false
    → Amends (world_with start rows (map fresh before) []) day (student_row row) (world_with (max start day) rows (map fresh (before ++ row ∷ [])) [])
one_more rows start day before row small few new =
    amends (world_with start rows (map fresh before) []) day (student_row row) (world_with (max start day) rows (map fresh (before ++ row ∷ [])) [])
    (not_refused rows (max start day) (map fresh before) row (omega (arith, small, length-map before fresh)) few)
    (ap (λ students. record { state = quiet (world_with (max start day) rows students []); reply = Amended })
    (put (is_some (find_student (map fresh before) row.id)) is_new ∙ sym (map-append fresh before (row ∷ []))))
  where
    put : (b : Bool) → b ≡ false
        → cond b (map (with_row row) (map fresh before)) (map fresh before ++ (fresh row ∷ [])) ≡ map fresh before ++ (fresh row ∷ [])
    put true e = absurd (not_both true refl e)
    put false e = refl

    is_new : is_some (find_student (map fresh before) row.id) ≡ false
    is_new =
        any-find (λ (s : Student). s.row.id.0 == row.id.0) (map fresh before)
        ∙ sym (any_mapped (λ m. m == row.id.0) (λ (s : Student). s.row.id.0) (map fresh before)) ∙ ap (list_any (λ m. m == row.id.0)) (fresh_ids before)
        ∙ any_mapped (λ m. m == row.id.0) (λ (r : StudentRow). r.id.0) before ∙ new

-- ---- all commands

-- rows with few groups and curricula, of which no two have one id, lead to students with these rows
pub students_run : (rows : List OfferingRow) (rest before : List StudentRow) (start day : ℕ) → length (before ++ rest) ≤ 50000 → list_all is_few rest ≡ true
    → all_differ (map (λ r. r.id.0) (before ++ rest)) ≡ true
    → (last : ℕ) × Runs (world_with start rows (map fresh before) []) day (map asks_student rest) (world_with last rows (map fresh (before ++ rest)) [])
students_run rows [] before start day small few differ = (start, ap (λ its. world_with start rows (map fresh its) []) (sym (append-nil before)))
students_run rows (row ∷ rest) before start day small few differ =
    let joined = append_assoc before (row ∷ []) rest in
    let more = students_run rows rest (before ++ row ∷ []) (max start day) day (subst (λ its. length its ≤ 50000) (sym joined) small)
    (both-right (is_few row) (list_all is_few rest) few)
    (subst (λ its. all_differ (map (λ (r : StudentRow). r.id.0) its) ≡ true) (sym joined) differ) in (
      more.0,
      (
        world_with (max start day) rows (map fresh (before ++ row ∷ [])) [],
        one_more rows start day before row (omega (arith, small, length-append before (row ∷ rest))) (both-left (is_few row) (list_all is_few rest) few)
            (apart_middle (λ (r : StudentRow). r.id.0) before row rest differ).0,
        subst (λ its. Runs (world_with (max start day) rows (map fresh (before ++ row ∷ [])) []) day (map asks_student rest)
            (world_with more.0 rows (map fresh its) [])) joined more.1,
      ),
    )

-- ---- the rows of a state

row_ids : (ss : List Student) → map (λ (r : StudentRow). r.id.0) (map (λ (s : Student). s.row) ss) ≡ map (λ (s : Student). s.row.id.0) ss
row_ids [] = refl
row_ids (s ∷ ss) = ap (λ ids. s.row.id.0 ∷ ids) (row_ids ss)

same_rows : (rows : List StudentRow) → map (λ (s : Student). s.row) (map fresh rows) ≡ rows
same_rows [] = refl
same_rows (row ∷ rows) = ap (λ others. row ∷ others) (same_rows rows)

length-inserted : (s : Student) (ss : List Student) → length (insert_by (λ (x : Student). x.row.id.0) s ss) ≡ length ss + 1
length-inserted s [] = refl
length-inserted s (x ∷ xs) = by (nat_le s.row.id.0 x.row.id.0) (length-inserted s xs)
  where
    by : (b : Bool) → length (insert_by (λ (y : Student). y.row.id.0) s xs) ≡ length xs + 1
        → length (cond b (s ∷ x ∷ xs) (x ∷ insert_by (λ (y : Student). y.row.id.0) s xs)) ≡ length (x ∷ xs) + 1
    by true more = omega arith
    by false more = omega (arith, more)

length-ordered : (ss : List Student) → length (sorted_by (λ (s : Student). s.row.id.0) ss) ≡ length ss
length-ordered [] = refl
length-ordered (s ∷ ss) = omega (arith, length-inserted s (sorted_by (λ (x : Student). x.row.id.0) ss), length-ordered ss)

-- the rows of a world's students, in order, behind those of offerings
pub rows_run : (w : World) (rows : List OfferingRow) (start day : ℕ) → list_all has_few w.students ≡ true
    → all_differ (map (λ s. s.row.id.0) w.students) ≡ true → length w.students ≤ 50000
    → (last : ℕ) × Runs (world_with start rows [] []) day (map asks_student (map (λ s. s.row) (students_by_id w)))
    (world_with last rows (map fresh (map (λ s. s.row) (students_by_id w))) [])
rows_run w rows start day few differ small =
    let ss = students_by_id w in
    let its = map (λ (s : Student). s.row) ss in
    students_run rows its [] start day (omega (arith, small, length-map ss (λ (s : Student). s.row), length-ordered w.students))
    (list_all-map is_few (λ (s : Student). s.row) ss ∙ all-sorted (λ (s : Student). s.row.id.0) has_few w.students ∙ few)
    (ap all_differ (row_ids ss) ∙ differ_sorted (λ (s : Student). s.row.id.0) (λ (s : Student). s.row.id.0) w.students differ)

again : (w : World) (day : ℕ) → list_all has_few w.students ≡ true → all_differ (map (λ s. s.row.id.0) w.students) ≡ true → length w.students ≤ 50000
    → Returns w tables.Students day
again w day few differ small =
    let rows = map (λ (s : Student). s.row) (students_by_id w) in
    let run = rows_run w [] 0 day few differ small in
    let given = runs_give (map asks_student rows) (world_with 0 [] [] []) (world_with run.0 [] (map fresh rows) []) day run.1 in
    let stays = sorted_stays (λ (s : Student). s.row.id.0) (map fresh rows)
    (ap ascends (fresh_ids rows ∙ row_ids (students_by_id w)) ∙ ascends_sorted (λ (s : Student). s.row.id.0) w.students) in
    (given.0, ap (λ v. rows_view v tables.Students) given.1 ∙ ap Students (ap (map (λ (s : Student). s.row)) stays ∙ same_rows rows))

-- the commands of the students' table of a history's state lead to the same rows
pub students_return : StudentsReturn
students_return entries day replay =
    let k = (replays-good entries replay).kept entries [] (sym (append-nil entries)) in
    again (state_of entries).world day (states_are_checked entries replay).few k.world.students_differ
    (leb-true (length (state_of entries).world.students) 50000 k.world.few_students)
