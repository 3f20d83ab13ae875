-- The table of requests is read back.
use Rattle.std.proofs.Common.{◌≡◌, ℕ, ◌+◌, ◌<◌, false, IsTrue, List, [], ◌∷◌, ◌++◌, length, length-append, map, append-nil, append_assoc, Option, None, Some, Ok, refl, sym, ap, ◌∙◌, subst, decimal, arith}
use Rattle.std.specs.List.{AllByRecursion}
use Rattle.std.specs.Prelude.{flat_map}
use Rattle.std.specs.Str.{bytes_eq}
use Rattle.csv.specs.Records.{field_at}
use Rattle.sect_base.specs.declared.ids.StudentId.{StudentId}
use Rattle.sect_command.specs.declared.command.Command.{Command}
use Rattle.sect_command.specs.declared.view.AsksView.{AsksView}
use Rattle.sect_command.specs.declared.view.Table.TheVariants as tables
use Rattle.sect_command.specs.declared.view.View.TheVariants as views
use Rattle.sect_tables.specs.Fields.{field_of}
use Rattle.sect_tables.specs.Lines.{ask_fields, ask_line, course_fields, free_fields, rank_of}
use Rattle.sect_people.specs.Order.{all_differ}
use Rattle.sect_people.specs.declared.row.Ask.{Ask}
use Rattle.sect_people.specs.declared.row.Ask.TheVariants.{Course, Free}
use Rattle.sect_people.specs.declared.row.CourseAsk.{CourseAsk}
use Rattle.sect_read.proofs.ValueLaws.{exact_courses, exact_meeting, exact_student}
use Rattle.sect_read.specs.Fits.{Fits32, FitsAsk, FitsCourseAsk, FitsList, FitsStudent}
use Rattle.sect_csv.specs.Tables.{ask_fields as ask_texts, asks_text, written}
use Rattle.sect_tables.specs.Requests.{RequestsSoFar, requests_begun, requests_with}
use Rattle.sect_tables.specs.Rows.{given_of, requests_first, requests_next, requests_row, row_read, same_student, table_row}
use Rattle.sect_tables.specs.declared.hand.AtHand.{AtHand}
use Rattle.sect_tables.specs.declared.hand.Group.TheVariants as groups
use Rattle.sect_base.specs.Pattern.{IsPattern, Pattern}
use Rattle.sect_words.proofs.Exact.{word_same}
use Rattle.sect_base.specs.MeetingText.{meeting_text}
use Rattle.sect_words.specs.Reading.{only_where}
use Rattle.sect_words.specs.ReadingWords.{course_of, flag_of, list_of, meeting_of, student_of}
use Rattle.sect_words.specs.Words.{course_text, flag_text, list_text}
use Rattle.sect_return.specs.Asked.{asks_requests, asks_view}
use Rattle.sect_return.specs.Back.{FitsAsks, RequestsReadBack}
use Rattle.sect_return.proofs.Ends.{Ends, ends_here, ends_with, held, reads_by_rows, standing}
use Rattle.sect_return.proofs.Others.{apart_each}
use Rattle.sect_return.proofs.Told.{told_back, then_back}
use Rattle.sect_return.proofs.Words.{flag_back}
use Rattle.sect_return.proofs.Written.{Shows, shows_both, shows_each, shows_fields, shows_none}

-- ---- a row

-- the number of a row is its rank
rank_back : (rank : ℕ) → rank_of rank (decimal rank) ≡ Some rank
rank_back rank = ap (λ b. only_where b rank) (word_same (decimal rank) (decimal rank) refl)

course_back : (student : StudentId) (rank : ℕ) (ask : CourseAsk) → FitsCourseAsk ask → course_fields (ask_texts student rank (Course ask)) ≡ Ok (Course ask)
unfolding course_fields field_of field_at
course_back student rank ask fits =
    told_back 4 (list_of 43 course_of (list_text 43 course_text ask.courses)) ask.courses _ _ (exact_courses.again ask.courses fits)
    (told_back 5 (flag_of (flag_text ask.wait)) ask.wait _ _ (flag_back ask.wait)
    (told_back 6 (flag_of (flag_text ask.substitute)) ask.substitute _ _ (flag_back ask.substitute) refl))

free_back : (student : StudentId) (rank : ℕ) (meeting : Pattern) → IsPattern meeting → free_fields (ask_texts student rank (Free meeting)) ≡ Ok (Free meeting)
unfolding free_fields field_of field_at
free_back student rank meeting fits =
    told_back 4 (meeting_of (meeting_text meeting)) meeting _ _ (exact_meeting.again meeting fits) refl

values_back : (student : StudentId) (rank : ℕ) (ask : Ask) → FitsStudent student → FitsAsk ask → ask_fields rank (ask_texts student rank ask) ≡ Ok (student, ask)
unfolding ask_fields field_of field_at
values_back student rank (Course ask) known fits =
    told_back 1 (student_of (decimal student.0)) student _ _ (exact_student.again student known)
    (told_back 2 (rank_of rank (decimal rank)) rank _ _ (rank_back rank)
    (then_back (course_fields (ask_texts student rank (Course ask))) (Course ask) _ _ (course_back student rank ask fits) refl))
values_back student rank (Free meeting) known fits =
    told_back 1 (student_of (decimal student.0)) student _ _ (exact_student.again student known)
    (told_back 2 (rank_of rank (decimal rank)) rank _ _ (rank_back rank)
    (then_back (free_fields (ask_texts student rank (Free meeting))) (Free meeting) _ _ (free_back student rank meeting fits) refl))

line_back : (student : StudentId) (rank : ℕ) (ask : Ask) → FitsStudent student → FitsAsk ask → ask_line rank (ask_texts student rank ask) ≡ Ok (student, ask)
unfolding ask_line
line_back student rank (Course ask) known fits = values_back student rank (Course ask) known fits
line_back student rank (Free meeting) known fits = values_back student rank (Free meeting) known fits

-- the first field is the student
named : (student : StudentId) (rank : ℕ) (ask : Ask) → field_of (ask_texts student rank ask) 1 ≡ decimal student.0
unfolding field_of field_at
named student rank (Course ask) = refl
named student rank (Free meeting) = refl

-- ---- requests at hand

-- requests of a student
abbrev pub part_of : StudentId → List Ask → RequestsSoFar
part_of student asks = record { name = decimal student.0; student = student; asks = asks }

-- the same, with their first row
abbrev taken : ℕ → StudentId → List Ask → Option AtHand
taken first student asks = Some (record { first = first; group = groups.Requests (part_of student asks) })

-- the requests at hand are not this student's
abbrev IsOther : Option AtHand → AsksView → Type 0
IsOther hand view = same_student hand (decimal view.student.0) ≡ None

-- those at hand are this student's
found : (first : ℕ) (student : StudentId) (asks : List Ask)
    → same_student (taken first student asks) (decimal student.0) ≡ Some (first, part_of student asks)
unfolding same_student
found first student asks = ap (λ b. only_where b (first, part_of student asks)) (word_same (decimal student.0) (decimal student.0) refl)

-- those at hand are another's
not_found : (first : ℕ) (student : StudentId) (asks : List Ask) (name : List ℕ) → bytes_eq (decimal student.0) name ≡ false → same_student (taken first student asks) name ≡ None
unfolding same_student
not_found first student asks name other = ap (λ b. only_where b (first, part_of student asks)) other

-- a row of another student begins requests
row_begins : (term : Option ℕ) (rows : ℕ) (hand : Option AtHand) (opened : Option ℕ) (student : StudentId) (ask : Ask) → FitsStudent student → FitsAsk ask
    → same_student hand (decimal student.0) ≡ None
    → row_read (standing tables.Requests term rows hand opened) (ask_texts student 1 ask)
    ≡ (standing tables.Requests term (rows + 1) (taken (rows + 1) student (ask ∷ [])) (Some (rows + 1)), given_of hand)
unfolding row_read table_row requests_row requests_begun
row_begins term rows hand opened student ask known fits other =
    ap (λ name. requests_row (standing tables.Requests term (rows + 1) hand opened) (ask_texts student 1 ask) (same_student hand name)) (named student 1 ask)
    ∙ ap (requests_row (standing tables.Requests term (rows + 1) hand opened) (ask_texts student 1 ask)) other
    ∙ ap (requests_first (standing tables.Requests term (rows + 1) hand opened) (ask_texts student 1 ask)) (line_back student 1 ask known fits)
    ∙ ap (λ (name : List ℕ). (standing tables.Requests term (rows + 1) (Some (record { first = rows + 1; group = groups.Requests (record { name = name; student = student; asks = ask ∷ [] }) })) (Some (rows + 1)), given_of hand))
    (named student 1 ask)

-- a row of the student goes on with the requests
row_goes_on : (term : Option ℕ) (rows first : ℕ) (opened : Option ℕ) (student : StudentId) (asks : List Ask) (rank : ℕ) (ask : Ask) → FitsStudent student → FitsAsk ask → rank ≡ length asks + 1
    → row_read (standing tables.Requests term rows (taken first student asks) opened) (ask_texts student rank ask)
    ≡ (standing tables.Requests term (rows + 1) (taken first student (asks ++ (ask ∷ []))) opened, [])
unfolding row_read table_row requests_row requests_with
row_goes_on term rows first opened student asks rank ask known fits is_rank =
    ap (λ name. requests_row (standing tables.Requests term (rows + 1) (taken first student asks) opened) (ask_texts student rank ask) (same_student (taken first student asks) name)) (named student rank ask)
    ∙ ap (requests_row (standing tables.Requests term (rows + 1) (taken first student asks) opened) (ask_texts student rank ask)) (found first student asks)
    ∙ ap (requests_next (standing tables.Requests term (rows + 1) (taken first student asks) opened) first (part_of student asks))
    (ap (λ n. ask_line n (ask_texts student rank ask)) (sym is_rank) ∙ line_back student rank ask known fits)

-- ---- the rows of a student

-- the rows of requests, of which the first has this position
abbrev asks_rows : StudentId → ℕ → List Ask → List (List (List ℕ))
asks_rows student rank [] = []
asks_rows student rank (ask ∷ asks) = ask_texts student rank ask ∷ asks_rows student (rank + 1) asks

shows_ask : (student : StudentId) (rank : ℕ) (ask : Ask) → Shows (written (ask_texts student rank ask)) (ask_texts student rank ask ∷ [])
shows_ask student rank (Course ask) = shows_fields (ask_texts student rank (Course ask)) refl
shows_ask student rank (Free meeting) = shows_fields (ask_texts student rank (Free meeting)) refl

shows_asks : (student : StudentId) (rank : ℕ) (asks : List Ask) → Shows (asks_text student rank asks) (asks_rows student rank asks)
shows_asks student rank [] = shows_none
shows_asks student rank (ask ∷ asks) = shows_both (written (ask_texts student rank ask)) (asks_text student (rank + 1) asks) (ask_texts student rank ask ∷ []) (asks_rows student (rank + 1) asks) (shows_ask student rank ask) (shows_asks student (rank + 1) asks)

-- the other rows of a student go on with the requests, whatever rows are behind them
go_on : (term : Option ℕ) (first : ℕ) (opened : Option ℕ) (student : StudentId) (behind : List (List (List ℕ))) (commands : List Command) (all : List Ask) → FitsStudent student
    → ((rows : ℕ) → 0 < rows → Ends (standing tables.Requests term rows (taken first student all) opened) behind commands)
    → (asks : List Ask) (rows rank : ℕ) (done : List Ask) → 0 < rows → FitsList FitsAsk asks → rank ≡ length done + 1 → done ++ asks ≡ all
    → Ends (standing tables.Requests term rows (taken first student done) opened) (asks_rows student rank asks ++ behind) commands
go_on term first opened student behind commands all known follows [] rows rank done some fits is_rank is_all =
    subst (λ its. Ends (standing tables.Requests term rows (taken first student its) opened) behind commands) (sym is_all ∙ append-nil done) (follows rows some)
go_on term first opened student behind commands all known follows (ask ∷ asks) rows rank done some fits is_rank is_all =
    ends_with (standing tables.Requests term rows (taken first student done) opened) _ (ask_texts student rank ask) (asks_rows student (rank + 1) asks ++ behind) [] commands
    (row_goes_on term rows first opened student done rank ask known fits.0 is_rank)
    (go_on term first opened student behind commands all known follows asks (rows + 1) (rank + 1) (done ++ (ask ∷ [])) (omega arith) fits.1
    (omega (arith, is_rank, length-append done (ask ∷ []))) (append_assoc done (ask ∷ []) asks ∙ is_all))

-- the rows of a student, and those behind them, where the requests at hand are another's
student_ends : (term : Option ℕ) (rows : ℕ) (hand : Option AtHand) (opened : Option ℕ) (student : StudentId) (asks : List Ask) (behind : List (List (List ℕ))) (commands : List Command) → 0 < rows
    → FitsStudent student → FitsList FitsAsk asks → same_student hand (decimal student.0) ≡ None
    → Ends (standing tables.Requests term rows hand opened) behind (held hand ++ commands)
    → ((more first : ℕ) (begun : Option ℕ) → 0 < more → Ends (standing tables.Requests term more (taken first student asks) begun) behind (held (taken first student asks) ++ commands))
    → Ends (standing tables.Requests term rows hand opened) (asks_rows student 1 asks ++ behind) (held hand ++ (asks_requests student asks ++ commands))
unfolding given_of
student_ends term rows hand opened student [] behind commands some known fits other none follows = none
student_ends term rows hand opened student (ask ∷ asks) behind commands some known fits other none follows =
    ends_with (standing tables.Requests term rows hand opened) _ (ask_texts student 1 ask) (asks_rows student 2 asks ++ behind) (given_of hand) _ (row_begins term rows hand opened student ask known fits.0 other)
    (go_on term (rows + 1) (Some (rows + 1)) student behind _ (ask ∷ asks) known (λ more its. follows more (rows + 1) (Some (rows + 1)) its) asks (rows + 1) 2 (ask ∷ []) (omega arith) fits.1 refl refl)

-- ---- the rows of all students

rows_end : (term : Option ℕ) (rows : ℕ) (hand : Option AtHand) (opened : Option ℕ) (vs : List AsksView) → 0 < rows → FitsList FitsAsks vs → IsTrue (all_differ (map (λ v. v.student.0) vs))
    → AllByRecursion (IsOther hand) vs
    → Ends (standing tables.Requests term rows hand opened) (flat_map (λ v. asks_rows v.student 1 v.asks) vs) (held hand ++ flat_map asks_view vs)
rows_end term rows hand opened [] some fits differ others =
    subst (Ends (standing tables.Requests term rows hand opened) []) (sym (append-nil (held hand))) (ends_here tables.Requests term rows hand opened some)
rows_end term rows hand opened (v ∷ vs) some fits differ others =
    let apart = apart_each (λ (x : AsksView). x.student.0) v vs (each_student (v ∷ vs) fits) differ in
    student_ends term rows hand opened v.student v.asks (flat_map (λ x. asks_rows x.student 1 x.asks) vs) (flat_map asks_view vs) some fits.0.0 fits.0.1 others.0
    (rows_end term rows hand opened vs some fits.1 apart.1 others.1)
    (λ more first begun its. rows_end term more (taken first v.student v.asks) begun vs its fits.1 apart.1 (each_other first v vs apart.0))
  where
    each_student : (xs : List AsksView) → FitsList FitsAsks xs → FitsList (λ (x : AsksView). Fits32 x.student.0) xs
    each_student [] its = tt
    each_student (x ∷ xs) its = (its.0.0, each_student xs its.1)

    each_other : (first : ℕ) (x : AsksView) (xs : List AsksView) → AllByRecursion (λ (y : AsksView). bytes_eq (decimal x.student.0) (decimal y.student.0) ≡ false) xs
        → AllByRecursion (IsOther (taken first x.student x.asks)) xs
    each_other first x [] its = tt
    each_other first x (y ∷ ys) its = (not_found first x.student x.asks (decimal y.student.0) its.0, each_other first x ys its.1)

-- nothing is at hand at the start
none_at_hand : (vs : List AsksView) → AllByRecursion (IsOther None) vs
unfolding same_student
none_at_hand [] = tt
none_at_hand (v ∷ vs) = (refl, none_at_hand vs)

-- the table of requests is read as the commands of its rows
pub requests_read_back : RequestsReadBack
unfolding given_of
requests_read_back vs fits differ term =
    reads_by_rows tables.Requests term (views.Requests vs) (flat_map (λ v. asks_rows v.student 1 v.asks) vs) (flat_map asks_view vs)
    (shows_each (λ v. asks_text v.student 1 v.asks) (λ v. asks_rows v.student 1 v.asks) (λ v. shows_asks v.student 1 v.asks) vs)
    (rows_end term 1 None None vs (omega arith) fits differ (none_at_hand vs))
