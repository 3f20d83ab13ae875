-- Each line of a batch answers the request at its position, and lines join one after another.
use Rattle.std.specs.Prelude.{◌≡◌, ℕ, zero, suc, ◌+◌, ◌-◌, ◌<◌, ◌≤◌, List, [], ◌∷◌, ◌++◌, length, map, slice_get, slice_set, take, drop, Option, Some, Result, Ok, Err, IfOk, refl}
use Rattle.std.specs.List.{enumerate_from}
use Rattle.std.specs.Option.{option_map_or}
use Rattle.std.proofs.Common.{sym, ◌∙◌, ap, arith, get_or}
use Rattle.std.proofs.lemmas.List.{map-append}
use Rattle.sect_people.specs.Student.{Student, find_student}
use Rattle.sect_people.specs.declared.row.Ask.TheVariants.{Course as asks_course, Free}
use Rattle.sect_command.specs.declared.reply.Line.{Line}
use Rattle.sect_command.specs.declared.reply.LineResult.{LineResult}
use Rattle.sect_command.specs.declared.reply.LineResult.TheVariants.{Met, Held, Blocked, Spent, Waiting, Skipped}
use Rattle.sect_command.specs.declared.reply.Reply.TheVariants.{Batched as batched_reply}
use Rattle.sect_model.specs.Data.{StudentId, Ask, CourseAsk}
use Rattle.sect_model.specs.World.{World}
use Rattle.sect_model.specs.Batch.{Answered, Batched, Joined, batch_of, batch_asks, batch_students, add_line, answer_to, world_after, asks_of, join_line, join_lines}
use Rattle.sect_model.specs.Step.{batched}
use Rattle.sect_wait.specs.Queued.{Queued, state_of}
use Rattle.sect_machine.specs.Answering.{no_ask, course_ask, answered_of, waiting_line}

-- the lines of these answers
abbrev lines_of : List Answered → List Line
lines_of answered = map (λ a. a.line) answered

-- the students are the same, and each line's request stands at its position
pub record Told (w : World) (b : Batched) : Type 0 where
  pub students : b.world.students ≡ w.students
  pub asked : map (answered_of w) (lines_of b.answered) ≡ b.answered

same-students : (w : World) (student : StudentId) (result : LineResult) → (world_after w student result).students ≡ w.students
same-students w student (Met choice) = refl
same-students w student (Held course) = refl
same-students w student (Blocked visits tree) = refl
same-students w student Spent = refl
same-students w student (Waiting ticket) = refl
same-students w student Skipped = refl

answered-back : (w : World) (line : Line) (ask : CourseAsk) → slice_get (asks_of w line.student) (line.rank - 1) ≡ Some (asks_course ask) → answered_of w line ≡ record { line = line; ask = ask }
answered-back w line ask at = λ i. record { line = line; ask = option_map_or course_ask (at i) no_ask }

told-line : (w : World) (b : Batched) (student : StudentId) (rank : ℕ) (ask : CourseAsk) (result : LineResult) → slice_get (asks_of w student) (rank - 1) ≡ Some (asks_course ask)
    → Told w b → Told w (add_line b student rank ask result)
told-line w b student rank ask result at t =
    let line : Line = record { student = student; rank = rank; result = result } in
    let a : Answered = record { line = line; ask = ask } in record {
      students = same-students b.world student result ∙ t.students;
      asked =
          ap (map (answered_of w)) (map-append (λ (a : Answered). a.line) b.answered (a ∷ []))
          ∙ map-append (answered_of w) (lines_of b.answered) (line ∷ [])
          ∙ (λ i. t.asked i ++ answered-back w line ask at i ∷ []);
    }

-- these requests stand from this place on
abbrev Stand : List Ask → ℕ → List Ask → Type 0
Stand all n asks = (i : ℕ) (ask : Ask) → slice_get asks i ≡ Some ask → slice_get all (n + i) ≡ Some ask

stand-first : (all : List Ask) (n : ℕ) (ask : Ask) (asks : List Ask) → Stand all n (ask ∷ asks) → slice_get all (n + 1 - 1) ≡ Some ask
stand-first all n ask asks stand = ap (slice_get all) here ∙ stand 0 ask refl
  where
    here : n + 1 - 1 ≡ n + 0
    here = omega arith

stand-rest : (all : List Ask) (n : ℕ) (ask : Ask) (asks : List Ask) → Stand all n (ask ∷ asks) → Stand all (n + 1) asks
stand-rest all n ask asks stand i a at = ap (slice_get all) here ∙ stand (suc i) a at
  where
    here : n + 1 + i ≡ n + suc i
    here = omega arith

told-asks : (w : World) (student : StudentId) (asks : List Ask) (n : ℕ) (b : Batched) → Stand (asks_of w student) n asks → Told w b → Told w (batch_asks b student (enumerate_from (n + 1) asks))
told-asks w student [] n b stand t = t
told-asks w student (Free pattern ∷ asks) n b stand t = told-asks w student asks (n + 1) b (stand-rest (asks_of w student) n (Free pattern) asks stand) t
told-asks w student (asks_course ask ∷ asks) n b stand t =
    told-asks w student asks (n + 1) (add_line b student (n + 1) ask (answer_to b student (n + 1) ask)) (stand-rest (asks_of w student) n (asks_course ask) asks stand)
    (told-line w b student (n + 1) ask (answer_to b student (n + 1) ask) (stand-first (asks_of w student) n (asks_course ask) asks stand) t)

told-students : (w : World) (students : List StudentId) (b : Batched) → Told w b → Told w (batch_students b students)
told-students w [] b t = t
told-students w (student ∷ students) b t =
    told-students w students (batch_asks b student (enumerate_from 1 (asks_of b.world student)))
    (told-asks w student (asks_of b.world student) 0 b (λ i ask at. ap (slice_get (asks_of w student)) (first i) ∙ ap (λ asks. slice_get asks i) (sym same) ∙ at) t)
  where
    first : (i : ℕ) → 0 + i ≡ i
    first i = omega arith

    same : asks_of b.world student ≡ asks_of w student
    same = ap (λ ss. option_map_or (λ (s : Student). s.asks) (find_student ss student) []) t.students

pub all-told : (w : World) (students : List StudentId) → Told w (batch_of w students)
unfolding batch_of
all-told w students = told-students w students (record { world = w; answered = [] }) (record { students = refl; asked = refl })

-- worlds of the same students have the same requests
same-asked : (w v : World) (lines : List Line) → v.students ≡ w.students → map (answered_of v) lines ≡ map (answered_of w) lines
same-asked w v lines e =
    ap (λ ss. map (λ (line : Line). record { line = line; ask = option_map_or course_ask (slice_get (option_map_or (λ (s : Student). s.asks) (find_student ss line.student) []) (line.rank - 1)) no_ask }) lines) e

-- the lines of a batch, each with the request at its position
pub batch-asked : (w : World) (students : List StudentId) → map (answered_of (batch_of w students).world) (lines_of (batch_of w students).answered) ≡ (batch_of w students).answered
batch-asked w students = same-asked w (batch_of w students).world (lines_of (batch_of w students).answered) (all-told w students).students ∙ (all-told w students).asked

-- what the lines join is what the batch does
pub batch-acted : {E : Type 0} (w v : World) (q p : Queued) (students : List StudentId) (made : List Line) (r : Result (List Line) E)
    → v ≡ (batch_of w students).world → made ≡ lines_of (batch_of w students).answered
    → IfOk r (λ joined. join_lines (record { state = state_of v q; lines = [] }) (map (answered_of v) made) ≡ record { state = state_of v p; lines = joined })
    → IfOk r (λ lines. batched (state_of w q) students ≡ record { state = state_of v p; reply = batched_reply lines })
batch-acted w v q p students made (Ok lines) world told joined =
    let b = batch_of w students in
    let all : map (answered_of v) made ≡ b.answered = (λ i. map (answered_of (world i)) (told i)) ∙ batch-asked w students in
    let join : join_lines (record { state = state_of b.world q; lines = [] }) b.answered ≡ record { state = state_of v p; lines = lines } =
    sym (λ i. join_lines (record { state = state_of (world i) q; lines = [] }) (all i)) ∙ joined in
    ap (λ (j : Joined). record { state = j.state; reply = batched_reply j.lines }) join
batch-acted w v q p students made (Err x) world told joined = tt

-- ---- the lines one after another

-- what is still to join leads to what all join
abbrev pub Joining : World → Queued → List Line → ℕ → Queued → List Line → Type 0
Joining w q_old old n q lines =
    join_lines (record { state = state_of w q; lines = take n lines }) (map (answered_of w) (drop n lines))
    ≡ join_lines (record { state = state_of w q_old; lines = [] }) (map (answered_of w) old)

front-set : (n : ℕ) (lines : List Line) (line : Line) → n < length lines → take (suc n) (slice_set lines n line) ≡ take n lines ++ line ∷ []
front-set n [] line h = absurd (omega (arith, h))
front-set zero (x ∷ xs) line h = refl
front-set (suc n) (x ∷ xs) line h = ap (λ ys. x ∷ ys) (front-set n xs line (omega (arith, h)))

rest-set : (n : ℕ) (lines : List Line) (line : Line) → n < length lines → drop (suc n) (slice_set lines n line) ≡ drop (suc n) lines
rest-set n [] line h = absurd (omega (arith, h))
rest-set zero (x ∷ xs) line h = refl
rest-set (suc n) (x ∷ xs) line h = rest-set n xs line (omega (arith, h))

rest-first : (n : ℕ) (lines : List Line) (none : Line) → n < length lines → drop n lines ≡ get_or lines n none ∷ drop (suc n) lines
rest-first n [] none h = absurd (omega (arith, h))
rest-first zero (x ∷ xs) none h = refl
rest-first (suc n) (x ∷ xs) none h = rest-first n xs none (omega (arith, h))

next-place : (n : ℕ) → n + 1 ≡ suc n
next-place n = omega arith

pub joining-more : (w : World) (q_old : Queued) (old : List Line) (n : ℕ) (q : Queued) (lines : List Line) (none : Line) (ticket : Option ℕ) (p : Queued) (set : List Line) → n < length lines
    → Joining w q_old old n q lines
    → join_line (record { state = state_of w q; lines = take n lines }) (answered_of w (get_or lines n none)) ≡ record { state = state_of w p; lines = take n lines ++ waiting_line (get_or lines n none) ticket ∷ [] }
    → set ≡ slice_set lines n (waiting_line (get_or lines n none) ticket)
    → Joining w q_old old (n + 1) p set
joining-more w q_old old n q lines none ticket p set few joining one is =
    let line : Line = waiting_line (get_or lines n none) ticket in
    let front : take (n + 1) set ≡ take n lines ++ line ∷ [] = (λ i. take (next-place n i) (is i)) ∙ front-set n lines line few in
    let rest : drop (n + 1) set ≡ drop (suc n) lines = (λ i. drop (next-place n i) (is i)) ∙ rest-set n lines line few in
    (λ i. join_lines (record { state = state_of w p; lines = front i }) (map (answered_of w) (rest i)))
    ∙ sym (ap (λ j. join_lines j (map (answered_of w) (drop (suc n) lines))) one)
    ∙ sym (ap (λ ls. join_lines (record { state = state_of w q; lines = take n lines }) (map (answered_of w) ls)) (rest-first n lines none few))
    ∙ joining

take_all : (n : ℕ) (xs : List Line) → length xs ≤ n → take n xs ≡ xs
take_all zero [] few = refl
take_all (suc n) [] few = refl
take_all zero (x ∷ xs) few = absurd (omega (arith, few))
take_all (suc n) (x ∷ xs) few = ap (λ ys. x ∷ ys) (take_all n xs (omega (arith, few)))

drop_all : (n : ℕ) (xs : List Line) → length xs ≤ n → drop n xs ≡ []
drop_all zero [] few = refl
drop_all (suc n) [] few = refl
drop_all zero (x ∷ xs) few = absurd (omega (arith, few))
drop_all (suc n) (x ∷ xs) few = drop_all n xs (omega (arith, few))

pub joining-all : (w : World) (q_old : Queued) (old : List Line) (n : ℕ) (q : Queued) (lines : List Line) → length lines ≤ n → Joining w q_old old n q lines
    → join_lines (record { state = state_of w q_old; lines = [] }) (map (answered_of w) old) ≡ record { state = state_of w q; lines = lines }
joining-all w q_old old n q lines all joining =
    sym joining ∙ (λ i. join_lines (record { state = state_of w q; lines = take_all n lines all i }) (map (answered_of w) (drop_all n lines all i)))
