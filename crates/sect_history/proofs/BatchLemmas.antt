-- The lines of a batch are good.
use Rattle.std.specs.Prelude.{◌≡◌, ℕ, suc, ◌+◌, Bool, true, false, ◌&&◌, cond, List, [], ◌∷◌, ◌++◌, map, find, slice_get, Option, Some, None, refl}
use Rattle.std.specs.List.{list_all, enumerate_from}
use Rattle.std.specs.Option.{is_some, option_map_or}
use Rattle.std.proofs.Common.{sym, ◌∙◌, ap, subst, arith, inl, inr}
use Rattle.std.proofs.lemmas.List.{map-append}
use Rattle.sect_base.specs.Tree.{Tree}
use Rattle.sect_base.specs.declared.ids.StudentId.{StudentId}
use Rattle.sect_base.specs.declared.ids.CourseId.{CourseId}
use Rattle.sect_base.specs.declared.choice.Move.{Move}
use Rattle.sect_people.specs.Student.{Student, find_student}
use Rattle.sect_people.specs.declared.row.Ask.{Ask}
use Rattle.sect_people.specs.declared.row.Ask.TheVariants.{Course as asks_course, Free}
use Rattle.sect_people.specs.declared.row.CourseAsk.{CourseAsk}
use Rattle.sect_command.specs.declared.reply.Line.{Line}
use Rattle.sect_command.specs.declared.reply.LineResult.{LineResult}
use Rattle.sect_command.specs.declared.reply.LineResult.TheVariants.{Met, Held, Blocked, Spent, Waiting, Skipped}
use Rattle.sect_model.specs.declared.held.Waiting.{Waiting as Entry}
use Rattle.sect_model.specs.declared.pick.Outcome.{Outcome}
use Rattle.sect_model.specs.declared.pick.Outcome.TheVariants.{Found, Blocked as blocked, Spent as spent}
use Rattle.sect_model.specs.World.{World, enrol, holds}
use Rattle.sect_model.specs.Allowed.{is_allowed}
use Rattle.sect_model.specs.Move.{are_allowed}
use Rattle.sect_model.specs.Outcome.{outcome_of}
use Rattle.sect_model.specs.Settle.{found_in}
use Rattle.sect_model.specs.Batch.{Answered, Batched, Joined, add_line, answer_to, asks_of, batch_asks, batch_of, batch_students, held_or, is_skipped, is_unmet, join_by, join_line, join_lines, request_move, result_of, search_for, skipped_or, ticket_of, want_of, with_result, world_after}
use Rattle.sect_model.specs.Premises.{courses_known, is_sized, want_fits}
use Rattle.sect_model.specs.Stands.{MoveStands}
use Rattle.sect_model.specs.Kept.{KeptWorld}
use Rattle.sect_model.specs.Refuted.{Refuted}
use Rattle.sect_model.proofs.BatchLemmas.{Goes, ask_fits, asks-fit, ask-back, all-enumerate, line-goes}
use Rattle.sect_model.proofs.Easy.{all-one}
use Rattle.sect_model.proofs.GrowLemmas.{same-grows, want-stays}
use Rattle.sect_model.proofs.KeptMoves.{found-allowed}
use Rattle.sect_model.proofs.Members.{Member, all-at, all-of, both, both-left, both-right}
use Rattle.sect_model.proofs.RefutedLemmas.{blocked-refutes}
use Rattle.sect_history.specs.Changes.{SeatsLead}
use Rattle.sect_history.specs.BatchLines.{AreGoodLines, IsAskedAt, IsGoodLine}
use Rattle.sect_history.proofs.Leading.{seats-kept, seats-on, stays}
use Rattle.sect_history.proofs.Moving.{enrol-leads, is_of_known}

-- ---- lines behind lines

-- the world behind the lines
abbrev pub behind : World → List Line → World
behind w [] = w
behind w (line ∷ lines) = behind (world_after w line.student line.result) lines

behind-push : (lines : List Line) (w : World) (line : Line) → behind w (lines ++ line ∷ []) ≡ world_after (behind w lines) line.student line.result
behind-push [] w line = refl
behind-push (x ∷ lines) w line = behind-push lines (world_after w x.student x.result) line

good-push : (lines : List Line) (w : World) (line : Line) → AreGoodLines w lines → IsGoodLine (behind w lines) line → AreGoodLines w (lines ++ line ∷ [])
good-push [] w line good one = (one, tt)
good-push (x ∷ lines) w line good one = (good.0, good-push lines (world_after w x.student x.result) line good.1 one)

pub good-lead : (lines : List Line) (w : World) → KeptWorld w → AreGoodLines w lines → SeatsLead w (behind w lines)
good-lead [] w k good = stays w k
good-lead (x ∷ lines) w k good =
    let next : World = world_after w x.student x.result in
    seats-on w next (behind next lines) good.0.led (good-lead lines next (seats-kept w next good.0.led) good.1)

-- ---- one line

-- what becomes of a request in a world
record IsGoodResult (w : World) (student : StudentId) (rank : ℕ) (ask : CourseAsk) (result : LineResult) : Type 0 where
  led : SeatsLead w (world_after w student result)
  refuted : (visits : ℕ) (tree : Tree) → result ≡ Blocked visits tree → Refuted w (request_move student ask rank) tree

request-stands : (w : World) (student : StudentId) (rank : ℕ) (ask : CourseAsk) → is_some (find_student w.students student) ≡ true → want_fits w (want_of ask 0) ≡ true
    → MoveStands w (request_move student ask rank)
request-stands w student rank ask known fits = record {
  student = known;
  courses = both (courses_known w (want_of ask rank)) true (both-left (courses_known w (want_of ask 0)) true (both-left _ (is_sized (want_of ask 0)) fits)) refl;
  sections = refl;
  sized = both (is_sized (want_of ask rank)) true (both-right (courses_known w (want_of ask 0) && true) (is_sized (want_of ask 0)) fits) refl;
}

good-result : (b : Batched) (student : StudentId) (rank : ℕ) (ask : CourseAsk) → KeptWorld b.world → is_some (find_student b.world.students student) ≡ true
    → want_fits b.world (want_of ask 0) ≡ true → IsGoodResult b.world student rank ask (answer_to b student rank ask)
good-result b student rank ask k known fits = by_held (find (holds b.world student) ask.courses)
  where
    mv : Move
    mv = request_move student ask rank

    by_outcome : (o : Outcome) → outcome_of b.world mv 2000 ≡ o → IsGoodResult b.world student rank ask (result_of o)
    by_outcome (Found [] visits) e = record { led = stays b.world k; refuted = λ visits tree h. cc }
    by_outcome (Found (c ∷ cs) visits) e = record {
      led = enrol-leads b.world student (want_of ask rank) c known
          (both-left (is_allowed b.world student (want_of ask rank) c) (are_allowed (enrol b.world student c) student [] cs)
          (found-allowed b.world mv 2000 (c ∷ cs) (ap found_in e))) k;
      refuted = λ visits tree h. cc;
    }
    by_outcome (blocked tree visits) e = record {
      led = stays b.world k;
      refuted = λ n t h.
          let same : tree ≡ t = cc in
          subst (Refuted b.world mv) same
          (blocked-refutes b.world mv 2000 visits tree (record { checked = k.rows_pass; reservations_differ = k.reservations_differ }) (request-stands b.world student rank ask known fits) e);
    }
    by_outcome (spent n) e = record { led = stays b.world k; refuted = λ visits tree h. cc }

    by_skip : (skip : Bool) → IsGoodResult b.world student rank ask (skipped_or (λ _. search_for b.world student ask rank) skip)
    by_skip true = record { led = stays b.world k; refuted = λ visits tree h. cc }
    by_skip false = by_outcome (outcome_of b.world mv 2000) refl

    by_held : (o : Option CourseId) → IsGoodResult b.world student rank ask (held_or (λ _. skipped_or (λ _. search_for b.world student ask rank) (is_skipped b student ask)) o)
    by_held None = by_skip (is_skipped b student ask)
    by_held (Some course) = record { led = stays b.world k; refuted = λ visits tree h. cc }

-- ---- the requests of a list, each with its position

abbrev pub Stands : List Ask → ℕ → ℕ × Ask → Type 0
Stands asks first p = (n : ℕ) × (p.0 ≡ n + first) × (slice_get asks n ≡ Some p.1)

none_before : (first : ℕ) → first ≡ 0 + first
none_before first = omega arith

stands-each : (asks : List Ask) (first : ℕ) (p : ℕ × Ask) → Member (enumerate_from first asks) p → Stands asks first p
stands-each [] first p m = absurd m
stands-each (a ∷ asks) first p (inl e) = subst (Stands (a ∷ asks) first) e (0, none_before first, refl)
stands-each (a ∷ asks) first p (inr m) =
    let (n, at, is) = stands-each asks (first + 1) p m in
    (suc n, later p.0 n first at, is)
  where
    later : (rank n first : ℕ) → rank ≡ n + (first + 1) → rank ≡ suc n + first
    later rank n first h = omega (arith, h)

same-asks : (w v : World) (student : StudentId) → v.students ≡ w.students → asks_of v student ≡ asks_of w student
same-asks w v student same = ap (λ ss. option_map_or (λ s. s.asks) (find_student ss student) []) same

-- ---- the lines so far

-- the lines are good, and lead to the batch's world
pub record Goods (w : World) (b : Batched) : Type 0 where
  pub goes : Goes w b
  pub good : AreGoodLines w (map (λ a. a.line) b.answered)
  pub world : behind w (map (λ a. a.line) b.answered) ≡ b.world

module _ (w : World) where
  line-good : (b : Batched) (student : StudentId) (rank : ℕ) (ask : CourseAsk) → is_some (find_student w.students student) ≡ true → want_fits w (want_of ask 0) ≡ true
      → IsAskedAt w student rank ask → Goods w b → Goods w (add_line b student rank ask (answer_to b student rank ask))
  line-good b student rank ask known fits asked g = record {
    goes = line-goes w b student rank ask known fits g.goes;
    good = subst (AreGoodLines w) (sym more) (good-push lines w line g.good (subst (λ v. IsGoodLine v line) (sym g.world) one));
    world = ap (behind w) more ∙ behind-push lines w line ∙ ap (λ v. world_after v student result) g.world;
  }
    where
      lines : List Line
      lines = map (λ a. a.line) b.answered

      result : LineResult
      result = answer_to b student rank ask

      line : Line
      line = record { student = student; rank = rank; result = result }

      more : map (λ a. a.line) (add_line b student rank ask result).answered ≡ lines ++ line ∷ []
      more = map-append (λ a. a.line) b.answered (record { line = line; ask = ask } ∷ [])

      one : IsGoodLine b.world line
      one =
          let grows = same-grows w b.world g.goes.students g.goes.rows in
          let r = good-result b student rank ask g.goes.world (grows.students student known) (want-stays w b.world grows (want_of ask 0) fits) in record {
            led = r.led;
            refuted = λ visits tree h. (ask, (asked.0, asked.1, ap (λ xs. slice_get xs asked.0) (same-asks w b.world student g.goes.students) ∙ asked.2), r.refuted visits tree h);
          }

  asks-good : (asks : List (ℕ × Ask)) (b : Batched) (student : StudentId) → is_some (find_student w.students student) ≡ true → list_all (λ p. ask_fits w p.1) asks ≡ true
      → ((p : ℕ × Ask) → Member asks p → Stands (asks_of w student) 1 p) → Goods w b → Goods w (batch_asks b student asks)
  asks-good [] b student known fits stand g = g
  asks-good ((rank, Free pattern) ∷ asks) b student known fits stand g = asks-good asks b student known fits (λ p m. stand p (inr m)) g
  asks-good ((rank, asks_course ask) ∷ asks) b student known fits stand g =
      asks-good asks (add_line b student rank ask (answer_to b student rank ask)) student known (both-right (want_fits w (want_of ask 0)) (list_all (λ p. ask_fits w p.1) asks) fits)
      (λ p m. stand p (inr m))
      (line-good b student rank ask known (both-left (want_fits w (want_of ask 0)) (list_all (λ p. ask_fits w p.1) asks) fits) (stand (rank, asks_course ask) (inl refl)) g)

  students-good : (students : List StudentId) (b : Batched) → list_all (λ s. is_some (find_student w.students s)) students ≡ true → Goods w b → Goods w (batch_students b students)
  students-good [] b known g = g
  students-good (student ∷ students) b known g =
      let asks : List Ask = asks_of b.world student in
      students-good students (batch_asks b student (enumerate_from 1 asks)) (both-right (is_some (find_student w.students student)) _ known)
      (asks-good (enumerate_from 1 asks) b student (both-left _ _ known)
      (all-enumerate (ask_fits w) 1 asks (all-of (ask_fits w) asks (λ a m. ask-back w b g.goes a (all-at (ask_fits b.world) asks (asks-fit b.world g.goes.world student) a m))))
      (λ p m. subst (λ xs. Stands xs 1 p) (same-asks w b.world student g.goes.students) (stands-each asks 1 p m)) g)

  pub batch-good : (students : List StudentId) → KeptWorld w → list_all (λ s. is_some (find_student w.students s)) students ≡ true → Goods w (batch_of w students)
  unfolding batch_of
  batch-good students k known =
      students-good students (record { world = w; answered = [] }) known
      (record { goes = record { world = k; students = refl; rows = refl; fit = refl }; good = tt; world = refl })

-- ---- the lines that wait

-- an unmet line leaves the world as it is
unmet-stays : (w : World) (student : StudentId) (result : LineResult) → is_unmet result ≡ true → world_after w student result ≡ w
unmet-stays w student (Met choice) h = cc
unmet-stays w student (Held course) h = refl
unmet-stays w student (Blocked visits tree) h = refl
unmet-stays w student Spent h = refl
unmet-stays w student (Waiting ticket) h = refl
unmet-stays w student Skipped h = refl

-- the lines with one more are good, and lead where the line of the batch leads
pub record Joins (w v : World) (lines : List Line) : Type 0 where
  pub good : AreGoodLines w lines
  pub world : behind w lines ≡ v

join-one : (w v : World) (lines : List Line) (line : Line) → Joins w v lines → IsGoodLine v line → Joins w (world_after v line.student line.result) (lines ++ line ∷ [])
join-one w v lines line j one = record {
  good = good-push lines w line j.good (subst (λ u. IsGoodLine u line) (sym j.world) one);
  world = behind-push lines w line ∙ ap (λ u. world_after u line.student line.result) j.world;
}

-- a line that waits
waits-good : (v : World) (line : Line) (ticket : ℕ) → KeptWorld v → IsGoodLine v (with_result line (Waiting ticket))
waits-good v line ticket k = record { led = stays v k; refuted = λ visits tree h. cc }

join_line-good : (w v : World) (j : Joined) (a : Answered) → KeptWorld v → Joins w v j.lines → IsGoodLine v a.line
    → Joins w (world_after v a.line.student a.line.result) (join_line j a).lines
join_line-good w v j a k old one = by_test (is_unmet a.line.result && a.ask.wait) refl
  where
    waits : (ticket : ℕ) → is_unmet a.line.result ≡ true → Joins w (world_after v a.line.student a.line.result) (j.lines ++ with_result a.line (Waiting ticket) ∷ [])
    waits ticket unmet =
        subst (λ u. Joins w u (j.lines ++ with_result a.line (Waiting ticket) ∷ [])) (sym (unmet-stays v a.line.student a.line.result unmet))
        (join-one w v j.lines (with_result a.line (Waiting ticket)) old (waits-good v a.line ticket k))

    by_ticket : (o : Option ℕ) → is_unmet a.line.result ≡ true → Joins w (world_after v a.line.student a.line.result) (join_by j a o).lines
    by_ticket (Some ticket) unmet = waits ticket unmet
    by_ticket None unmet = waits j.state.next unmet

    by_test : (b : Bool) → is_unmet a.line.result && a.ask.wait ≡ b
        → Joins w (world_after v a.line.student a.line.result) (cond b (join_by j a (ticket_of j.state a.line.student a.ask.courses)) (record j { lines = j.lines ++ a.line ∷ [] })).lines
    by_test true e = by_ticket (ticket_of j.state a.line.student a.ask.courses) (both-left (is_unmet a.line.result) a.ask.wait e)
    by_test false e = join-one w v j.lines a.line old one

pub join_lines-good : (answered : List Answered) (w v : World) (j : Joined) → KeptWorld v → Joins w v j.lines → AreGoodLines v (map (λ a. a.line) answered)
    → AreGoodLines w (join_lines j answered).lines
join_lines-good [] w v j k old good = old.good
join_lines-good (a ∷ rest) w v j k old good =
    let next : World = world_after v a.line.student a.line.result in
    join_lines-good rest w next (join_line j a) (seats-kept v next good.0.led) (join_line-good w v j a k old good.0) good.1

-- joining changes no world, and those who join are known
pub record Joining (students : List Student) (j k : Joined) : Type 0 where
  pub world : k.state.world ≡ j.state.world
  pub known : list_all (is_of_known students) k.state.entries ≡ true

join_line-known : (students : List Student) (j : Joined) (a : Answered) → is_some (find_student students a.line.student) ≡ true
    → list_all (is_of_known students) j.state.entries ≡ true → Joining students j (join_line j a)
join_line-known students j a is known = by_test (is_unmet a.line.result && a.ask.wait)
  where
    entry : Entry
    entry = record { ticket = j.state.next; student = a.line.student; want = want_of a.ask a.line.rank; give = None; class = 5 }

    by_ticket : (o : Option ℕ) → Joining students j (join_by j a o)
    by_ticket (Some ticket) = record { world = refl; known = known }
    by_ticket None = record { world = refl; known = all-one (is_of_known students) j.state.entries entry known is }

    by_test : (b : Bool) → Joining students j (cond b (join_by j a (ticket_of j.state a.line.student a.ask.courses)) (record j { lines = j.lines ++ a.line ∷ [] }))
    by_test true = by_ticket (ticket_of j.state a.line.student a.ask.courses)
    by_test false = record { world = refl; known = known }

pub join_lines-known : (students : List Student) (answered : List Answered) (j : Joined) → list_all (λ a. is_some (find_student students a.line.student)) answered ≡ true
    → list_all (is_of_known students) j.state.entries ≡ true → Joining students j (join_lines j answered)
join_lines-known students [] j all known = record { world = refl; known = known }
join_lines-known students (a ∷ rest) j all known =
    let one = join_line-known students j a (both-left _ _ all) known in
    let more = join_lines-known students rest (join_line j a) (both-right (is_some (find_student students a.line.student)) _ all) one.known in
    record { world = more.world ∙ one.world; known = more.known }
