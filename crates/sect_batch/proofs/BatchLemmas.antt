-- A line more: how the world, the lines that are kept and the batch go on together.
use Rattle.std.specs.Prelude.{◌≡◌, ℕ, zero, suc, ◌+◌, ◌<◌, ◌≤◌, Bool, true, false, ◌==◌, nat_lt, List, [], ◌∷◌, ◌++◌, length, map, filter, find, slice_get, take, Option, Some, None, Result, Ok, Err, IfSome, OnOk, OnErr, refl}
use Rattle.std.specs.List.{list_all, enumerate_from}
use Rattle.std.specs.Bool.{then_some}
use Rattle.std.specs.Option.{is_some, is_none, option_map, option_map_or, option_or}
use Rattle.std.proofs.Common.{sym, ◌∙◌, ap, subst, arith, get_or}
use Rattle.std.proofs.lemmas.Bool.Decides.{nat_tests}
use Rattle.std.proofs.lemmas.List.Elements.{filter-append}
use Rattle.std.proofs.lemmas.List.{take_more, map-append}
use Rattle.std.proofs.lemmas.List.FromFn.{length-enumerate_from, get_or-enumerate_from}
use Rattle.sect_base.specs.Capped.{capped}
use Rattle.sect_base.specs.declared.choice.Choice.{Choice}
use Rattle.sect_base.specs.declared.ids.StudentId.{StudentId}
use Rattle.sect_people.specs.Student.{Student, find_student}
use Rattle.sect_people.specs.Fault as requests
use Rattle.sect_people.specs.declared.row.Ask.{Ask}
use Rattle.sect_people.specs.declared.row.Ask.TheVariants.{Course as asks_course, Free}
use Rattle.sect_people.specs.declared.row.CourseAsk.{CourseAsk}
use Rattle.sect_people.specs.declared.row.RequestFault.TheVariants.{UnknownCourse, Twice, TooMany}
use Rattle.sect_command.specs.declared.reply.LineResult.{LineResult}
use Rattle.sect_command.specs.declared.reply.LineResult.TheVariants.{Met, Held, Blocked, Spent, Waiting, Skipped}
use Rattle.sect_model.specs.declared.change.Change.{Change}
use Rattle.sect_model.specs.World.{World, course_ids}
use Rattle.sect_model.specs.Fits.{Fits, changed}
use Rattle.sect_model.specs.Kept.{KeptWorld, asks_pass}
use Rattle.sect_model.specs.Batch.{Batched, batch_of, batch_asks, batch_students, add_line, answer_to, world_after, asks_of}
use Rattle.sect_model.proofs.Members
use Rattle.sect_model.proofs.Members.{all-at, both-left, both-right, not_both}
use Rattle.sect_model.proofs.ListLemmas.{got-all}
use Rattle.sect_model.proofs.OfferingChange.{none-left, none-right, none-map}
use Rattle.sect_model.proofs.BatchLemmas as model
use Rattle.sect_space.specs.declared.back.Back.{Back}
use Rattle.sect_space.specs.Back.{back_of}
use Rattle.sect_space.specs.Undo.{Since}
use Rattle.sect_space.proofs.Steps.{since-none, since-more}
use Rattle.sect_batch.specs.declared.lines.Answer.{Answer}
use Rattle.sect_batch.specs.declared.lines.Lines.{Lines}
use Rattle.sect_batch.specs.Lines.{Tells, ToldOn, IsPut, ChoiceFits, MetFits, choice_by, choice_in, taking, line_by, mark_by, mark_of, is_counted, answer_by, answer_to_ask, ask_fits}

-- ---- what a change led to

pub made-since : {A E : Type 0} (w v : World) (bs cs : List Back) (change : Change) (r : Result A E) → Fits w change → OnOk r (v ≡ changed w change) → OnOk r (cs ≡ bs ++ back_of w change ∷ [])
    → OnErr r (v ≡ w) → OnErr r (cs ≡ bs) → Since w bs v cs
made-since w v bs cs change (Ok x) fits is recorded same unrecorded =
    subst (λ u. Since w bs u cs) (sym is) (subst (λ ds. Since w bs (changed w change) ds) (sym recorded) (since-more w w bs bs change (since-none w bs) fits))
made-since w v bs cs change (Err x) fits is recorded same unrecorded =
    subst (λ u. Since w bs u cs) (sym same) (subst (λ ds. Since w bs w ds) (sym unrecorded) (since-none w bs))

-- ---- the requests of a student

-- at most 20
pub few-asks : (w : World) → KeptWorld w → (student : StudentId) → length (asks_of w student) ≤ 20
few-asks w k student = by_found (find_student w.students student) refl
  where
    few : (n : ℕ) → nat_lt 20 n ≡ false → n ≤ 20
    few n h = grind (arith, nat_tests, h)

    not_said : (b : Bool) (n : ℕ) → is_none (then_some b n) ≡ true → b ≡ false
    not_said true n h = absurd (not_both false h refl)
    not_said false n h = refl

    passed : (asks : List Ask) → is_none (requests.fault_of asks (course_ids w)) ≡ true → length asks ≤ 20
    passed asks h =
        let counts = option_or (then_some (nat_lt 20 (length asks)) (length asks)) (requests.first_bad_length asks) in
        let rest = none-right (option_map (λ c. UnknownCourse c.0) (find (requests.is_unknown (course_ids w)) (requests.courses_of_all asks))) (option_or (option_map Twice (requests.repeated_after [] (requests.courses_of_all asks))) (option_map (λ n. TooMany (capped n)) counts)) h in
        let sizes = none-right (option_map Twice (requests.repeated_after [] (requests.courses_of_all asks))) (option_map (λ n. TooMany (capped n)) counts) rest in
        few (length asks) (not_said (nat_lt 20 (length asks)) (length asks)
        (none-left (then_some (nat_lt 20 (length asks)) (length asks)) (requests.first_bad_length asks) (sym (none-map (λ n. TooMany (capped n)) counts) ∙ sizes)))

    by_found : (o : Option Student) → find_student w.students student ≡ o → length (option_map_or (λ s. s.asks) o []) ≤ 20
    by_found None e = omega arith
    by_found (Some s) e = passed s.asks (all-at (asks_pass w) w.students k.asks_pass s (Members.find-member (λ s. s.row.id.0 == student.0) w.students s e).0)

same-fits : (w : World) (a : Ask) → model.ask_fits w a ≡ true → ask_fits w a ≡ true
same-fits w (asks_course ask) h = h
same-fits w (Free pattern) h = refl

-- each fits
pub ask-at-fits : (w : World) → KeptWorld w → (student : StudentId) (place : ℕ) (ask : Ask) → slice_get (asks_of w student) place ≡ Some ask → ask_fits w ask ≡ true
ask-at-fits w k student place ask at = same-fits w ask (got-all (model.ask_fits w) (asks_of w student) place ask at (model.asks-fit w k student))

-- the same students ask for the same
pub same-asks : (w v : World) (student : StudentId) → w.students ≡ v.students → asks_of w student ≡ asks_of v student
same-asks w v student e = ap (λ ss. option_map_or (λ (s : Student). s.asks) (find_student ss student) []) e

pub same-known : (w v : World) (student : StudentId) → w.students ≡ v.students → is_some (find_student v.students student) ≡ true → is_some (find_student w.students student) ≡ true
same-known w v student e h = ap (λ ss. is_some (find_student ss student)) e ∙ h

-- the request that was found at a place
pub found-at : (asks found : List Ask) (place : ℕ) (a : Ask) → found ≡ asks → place < length found → a ≡ get_or found place a → (place < length asks) × (slice_get asks place ≡ Some a)
found-at asks found place a same few is = subst (λ xs. (place < length xs) × (slice_get xs place ≡ Some a)) same (few, got found place few ∙ ap Some (sym is))
  where
    got : (xs : List Ask) (k : ℕ) → k < length xs → slice_get xs k ≡ Some (get_or xs k a)
    got [] k l = absurd (omega (arith, l))
    got (x ∷ xs) zero l = refl
    got (x ∷ xs) (suc k) l = got xs k (omega (arith, l))

-- one request stands at a place
one-request : (asks : List Ask) (i : ℕ) (x y : Ask) → slice_get asks i ≡ Some x → slice_get asks i ≡ Some y → x ≡ y
one-request asks i x y e f = cc

-- what holds anyway holds after a failure
pub on-err : {A E P : Type 0} (r : Result A E) → P → OnErr r P
on-err (Ok x) p = tt
on-err (Err x) p = p

-- ---- a line more

pub told-more : (w v : World) (l m : Lines) (student : StudentId) (rank : ℕ) (answer : Answer) → v ≡ world_after w student answer.result → m.lines.items ≡ l.lines.items ++ line_by student rank answer ∷ []
    → m.marks.items ≡ l.marks.items ++ filter is_counted (mark_by student answer ∷ []) → (b : Batched) (ask : CourseAsk) (line : LineResult) → Tells w l b → answer ≡ answer_by line ask → Tells v m (add_line b student rank ask line)
told-more w v l m student rank answer world lines marks b ask line t is = record {
  world = world ∙ (λ i. world_after (t.world i) student (is i).result);
  lines = lines ∙ (λ i. t.lines i ++ line_by student rank (is i) ∷ []) ∙ sym (map-append (λ a. a.line) b.answered (record { line = record { student = student; rank = rank; result = line }; ask = ask } ∷ []));
  marks = marks ∙ (λ i. t.marks i ++ filter is_counted (mark_by student (is i) ∷ []))
      ∙ sym (filter-append is_counted (map mark_of b.answered) (mark_by student (answer_by line ask) ∷ []))
      ∙ ap (filter is_counted) (sym (map-append mark_of b.answered (record { line = record { student = student; rank = rank; result = line }; ask = ask } ∷ [])));
}

-- no line, where the request is a free time
pub told-none : (w : World) (l : Lines) (student : StudentId) (rank : ℕ) (b : Batched) (ask : Ask) → Tells w l b → None ≡ answer_to_ask b student rank ask → Tells w l (batch_asks b student ((rank, ask) ∷ []))
told-none w l student rank b (Free pattern) t none = t
told-none w l student rank b (asks_course ask) t none = cc

pub told-some : (w v : World) (l m : Lines) (student : StudentId) (rank : ℕ) (answer : Answer)
    → ((b : Batched) (ask : CourseAsk) (line : LineResult) → Tells w l b → answer ≡ answer_by line ask → Tells v m (add_line b student rank ask line))
    → (b : Batched) (ask : Ask) → Tells w l b → Some answer ≡ answer_to_ask b student rank ask → Tells v m (batch_asks b student ((rank, ask) ∷ []))
told-some w v l m student rank answer more b (Free pattern) t some = cc
told-some w v l m student rank answer more b (asks_course ask) t some = more b ask (answer_to b student rank ask) t (same answer (answer_by (answer_to b student rank ask) ask) some)
  where
    same : (x y : Answer) → Some x ≡ Some y → x ≡ y
    same x y e = cc

-- a line that is put
after-choice : (w : World) (student : StudentId) (line : LineResult) → taking w student (choice_by line) ≡ world_after w student line
after-choice w student (Met choice) = refl
after-choice w student (Held course) = refl
after-choice w student (Blocked visits tree) = refl
after-choice w student Spent = refl
after-choice w student (Waiting ticket) = refl
after-choice w student Skipped = refl

pub put-line : (l m : Lines) (student : StudentId) (rank : ℕ) (answer : Answer) (choice : Option Choice) → choice ≡ choice_by answer.result → m.lines.items ≡ l.lines.items ++ line_by student rank answer ∷ []
    → m.marks.items ≡ l.marks.items ++ filter is_counted (mark_by student answer ∷ []) → IsPut student rank (Some answer) l m choice
put-line l m student rank answer choice is lines marks = record {
  same = is;
  told = λ w b ask t some. told-some w (taking w student choice) l m student rank answer
      (told-more w (taking w student choice) l m student rank answer (ap (taking w student) is ∙ after-choice w student answer.result) lines marks) b ask t some;
}

pub put-none : (l : Lines) (student : StudentId) (rank : ℕ) → IsPut student rank None l l None
put-none l student rank = record { same = refl; told = λ w b ask t none. told-none w l student rank b ask t none }

line-fits : (w : World) (student : StudentId) (line : LineResult) → MetFits w student line → ChoiceFits w student (choice_by line)
line-fits w student (Met choice) fits = fits
line-fits w student (Held course) fits = tt
line-fits w student (Blocked visits tree) fits = tt
line-fits w student Spent fits = tt
line-fits w student (Waiting ticket) fits = tt
line-fits w student Skipped fits = tt

-- its choice may be enrolled
pub choice-fits : (w : World) (student : StudentId) (rank : ℕ) (l m : Lines) (answer : Option Answer) (choice : Option Choice) → IfSome answer (λ x. MetFits w student x.result) → IsPut student rank answer l m choice → ChoiceFits w student choice
choice-fits w student rank l m answer choice met put = subst (ChoiceFits w student) (sym put.same) (by_answer answer met)
  where
    by_answer : (o : Option Answer) → IfSome o (λ x. MetFits w student x.result) → ChoiceFits w student (choice_in o)
    by_answer (Some x) fits = line-fits w student x.result fits
    by_answer None fits = tt

-- the request at a place is told
pub put-on : (w : World) (student : StudentId) (place rank : ℕ) (l m : Lines) (answer : Option Answer) (choice : Option Choice) (a : Ask) → rank ≡ place + 1 → slice_get (asks_of w student) place ≡ Some a
    → ((b : Batched) → Tells w l b → answer ≡ answer_to_ask b student (place + 1) a) → IsPut student rank answer l m choice
    → (b : Batched) (ask : Ask) → slice_get (asks_of w student) place ≡ Some ask → Tells w l b → Tells (taking w student choice) m (batch_asks b student ((place + 1, ask) ∷ []))
put-on w student place rank l m answer choice a next at answers put b ask here t =
    subst (λ n. Tells (taking w student choice) m (batch_asks b student ((n, ask) ∷ []))) next
    (put.told w b ask t (answers b t ∙ (λ i. answer_to_ask b student (sym next i) (one-request (asks_of w student) place a ask at here i))))

-- ---- requests one after the other

batch_asks-append : (xs ys : List (ℕ × Ask)) (b : Batched) (student : StudentId) → batch_asks b student (xs ++ ys) ≡ batch_asks (batch_asks b student xs) student ys
batch_asks-append [] ys b student = refl
batch_asks-append ((rank, Free pattern) ∷ xs) ys b student = batch_asks-append xs ys b student
batch_asks-append ((rank, asks_course ask) ∷ xs) ys b student = batch_asks-append xs ys (add_line b student rank ask (answer_to b student rank ask)) student

read : {X : Type 0} (xs : List X) (i : ℕ) → i < length xs → (x : X) × (slice_get xs i ≡ Some x) × (get_or xs i x ≡ x)
read [] i l = absurd (omega (arith, l))
read (x ∷ xs) zero l = (x, refl, refl)
read (x ∷ xs) (suc i) l = read xs i (omega (arith, l))

-- the request at a place, and the requests up to it
pub ask-more : (asks : List Ask) (i : ℕ) → i < length asks
    → (ask : Ask) × (slice_get asks i ≡ Some ask) × (take (i + 1) (enumerate_from 1 asks) ≡ take i (enumerate_from 1 asks) ++ (i + 1, ask) ∷ [])
ask-more asks i l =
    let at = read asks i l in (
      at.0,
      at.1,
      take_more (enumerate_from 1 asks) i (0, at.0) (more (length (enumerate_from 1 asks)) (length asks) (length-enumerate_from 1 asks) l)
          ∙ ap (λ p. take i (enumerate_from 1 asks) ++ p ∷ []) (get_or-enumerate_from 1 asks i (0, at.0) l ∙ (λ j. (turned i j, at.2 j))),
    )
  where
    more : (m n : ℕ) → m ≡ n → i < n → i < m
    more m n e h = omega (arith, e, h)

    turned : (n : ℕ) → 1 + n ≡ n + 1
    turned n = omega arith

-- the lines of the requests so far, and of one more
pub told-on : (student : StudentId) (asks : List Ask) (w_old : World) (l_old : Lines) (from n : ℕ) (w : World) (l : Lines) (v : World) (m : Lines) → n < length asks → ToldOn student asks w_old l_old from w l n
    → ((b : Batched) (ask : Ask) → slice_get asks n ≡ Some ask → Tells w l b → Tells v m (batch_asks b student ((n + 1, ask) ∷ []))) → ToldOn student asks w_old l_old from v m (n + 1)
told-on student asks w_old l_old from n w l v m few told more b t =
    let one = ask-more asks n few in
    let before = take n (enumerate_from 1 asks) in
    subst (Tells v m) (sym (ap (batch_asks b student) one.2 ∙ batch_asks-append before ((n + 1, one.0) ∷ []) b student)) (more (batch_asks b student before) one.0 one.1 (told b t))

take_all : {X : Type 0} (n : ℕ) (xs : List X) → length xs ≤ n → take n xs ≡ xs
take_all zero [] few = refl
take_all (suc n) [] few = refl
take_all zero (x ∷ xs) few = absurd (omega (arith, few))
take_all (suc n) (x ∷ xs) few = ap (λ ys. x ∷ ys) (take_all n xs (omega (arith, few)))

pub told-all : (student : StudentId) (asks : List Ask) (w_old : World) (l_old : Lines) (n : ℕ) (w : World) (l : Lines) → length asks ≤ n → ToldOn student asks w_old l_old 0 w l n
    → (b : Batched) → Tells w_old l_old b → Tells w l (batch_asks b student (enumerate_from 1 asks))
told-all student asks w_old l_old n w l all told b t =
    subst (λ xs. Tells w l (batch_asks b student xs)) (take_all n (enumerate_from 1 asks) (enough (length (enumerate_from 1 asks)) (length asks) (length-enumerate_from 1 asks) all)) (told b t)
  where
    enough : (k j : ℕ) → k ≡ j → j ≤ n → k ≤ n
    enough k j e h = omega (arith, e, h)

-- ---- students one after the other

batch_students-append : (xs ys : List StudentId) (b : Batched) → batch_students b (xs ++ ys) ≡ batch_students (batch_students b xs) ys
batch_students-append [] ys b = refl
batch_students-append (x ∷ xs) ys b = batch_students-append xs ys (batch_asks b x (enumerate_from 1 (asks_of b.world x)))

pub told-student : (w v : World) (l m : Lines) (start : Batched) (before : List StudentId) (student : StudentId) → Tells w l (batch_students start before)
    → ((b : Batched) → Tells w l b → Tells v m (batch_asks b student (enumerate_from 1 (asks_of w student)))) → Tells v m (batch_students start (before ++ student ∷ []))
told-student w v l m start before student t more =
    let b = batch_students start before in
    subst (Tells v m) (ap (λ u. batch_asks b student (enumerate_from 1 (asks_of u student))) t.world ∙ sym (batch_students-append before (student ∷ []) start)) (more b t)

-- ---- all students

pub all-told : (w v : World) (l : Lines) (students : List StudentId) (n : ℕ) → length students ≤ n → Tells v l (batch_students (record { world = w; answered = [] }) (take n students)) → Tells v l (batch_of w students)
unfolding batch_of
all-told w v l students n all t = subst (λ ss. Tells v l (batch_students (record { world = w; answered = [] }) ss)) (take_all n students all) t

pub at-index : {X : Type 0} (p : X → Bool) (xs : List X) (i : ℕ) (d : X) → list_all p xs ≡ true → i < length xs → p (get_or xs i d) ≡ true
at-index p [] i d h l = absurd (omega (arith, l))
at-index p (x ∷ xs) zero d h l = both-left (p x) (list_all p xs) h
at-index p (x ∷ xs) (suc i) d h l = at-index p xs i d (both-right (p x) (list_all p xs) h) (omega (arith, l))
