-- After a made swap or a made batch an entry that none of its changes opens or touches needs no search.
use Rattle.std.specs.Prelude.{◌≡◌, ℕ, Bool, true, false, ◌&&◌, ◌||◌, ◌==◌, cond, List, [], ◌∷◌, ◌++◌, find, Option, Some, None, refl, ◌⊎◌}
use Rattle.std.specs.List.{list_any, list_all, enumerate_from}
use Rattle.std.specs.Option.{is_some}
use Rattle.std.proofs.Common.{sym, ◌∙◌, ap, subst, inl, inr}
use Rattle.std.proofs.lemmas.Bool.{eq-eqb}
use Rattle.sect_people.specs.Student.{find_student}
use Rattle.sect_people.specs.declared.row.Ask.TheVariants.{Course as asks_course, Free}
use Rattle.sect_catalog.proofs.SearchLemmas.{any-append}
use Rattle.sect_command.specs.declared.reply.Line.{Line}
use Rattle.sect_command.specs.declared.reply.LineResult.{LineResult}
use Rattle.sect_command.specs.declared.reply.LineResult.TheVariants.{Met, Held, Blocked, Spent, Waiting as line_waits, Skipped}
use Rattle.sect_model.specs.Data.{StudentId, CourseId, Ask, CourseAsk, Choice, Move}
use Rattle.sect_model.specs.declared.held.Enrolment.{Enrolment}
use Rattle.sect_model.specs.declared.held.Waiting.{Waiting}
use Rattle.sect_model.specs.declared.change.Change.{Change}
use Rattle.sect_model.specs.declared.change.Change.TheVariants.{Enrol, Leave}
use Rattle.sect_model.specs.World.{World, State, enrol, enrol_all, leave, leave_all, holds}
use Rattle.sect_model.specs.Batch.{Answered, Batched, Joined, add_line, answer_to, asks_of, batch_asks, batch_of, batch_students, held_or, is_skipped, is_unmet, join_by, join_line, join_lines, request_move, search_for, skipped_or, ticket_of, want_of, with_result}
use Rattle.sect_model.specs.Outcome.{outcome_of}
use Rattle.sect_model.specs.Move.{is_allowed_move}
use Rattle.sect_model.specs.Settle.{make_move}
use Rattle.sect_model.specs.Premises.{MoveFits}
use Rattle.sect_model.specs.Fits.{Fits, changed}
use Rattle.sect_model.specs.Kept.{KeptWorld, entry_fits}
use Rattle.sect_model.specs.Freer.{Among, may_open}
use Rattle.sect_model.proofs.Members.{both-left, both-right, neither-left, neither-right, not_both}
use Rattle.sect_model.proofs.ChangeLemmas.{changes-keep}
use Rattle.sect_model.proofs.FreerLemmas.{any-same}
use Rattle.sect_batch.specs.Lines.{MetFits}
use Rattle.sect_batch.proofs.LineLemmas.{met-fits}
use Rattle.sect_wait.specs.Marked.{Needless, is_noted, may_need}
use Rattle.sect_wait.proofs.MarkLemmas.{among-append}
use Rattle.sect_wait.proofs.NeedLemmas.{neither, needless-stays, plain-need}
use Rattle.sect_machine.specs.Opening.{leaving_opens, lines_open, result_opens, taking_opens}
use Rattle.sect_machine.proofs.MoveLemmas.{LeavesOn, TakesOn, leaves-next, leaves-more, takes-next, takes-more, leave_all-students}

-- ---- worlds that differ in who is enrolled

abbrev SameRows : World → World → Type 0
SameRows w v = v ≡ record w { roster = v.roster }

leave_all-rows : (w : World) (student : StudentId) (courses : List CourseId) → SameRows w (leave_all w student courses)
leave_all-rows w student [] = refl
leave_all-rows w student (c ∷ cs) = leave_all-rows (leave w student c) student cs

enrol_all-rows : (w : World) (student : StudentId) (choices : List Choice) → SameRows w (enrol_all w student choices)
enrol_all-rows w student [] = refl
enrol_all-rows w student (c ∷ cs) = enrol_all-rows (enrol w student c) student cs

same-rows : (u v w : World) → SameRows u v → SameRows v w → SameRows u w
same-rows u v w uv vw = vw ∙ ap {A = World} (λ (x : World). record x { roster = w.roster }) uv

same-leaving : (w v : World) (student : StudentId) (courses : List CourseId) (e : Waiting) → SameRows w v → leaving_opens v student courses e ≡ leaving_opens w student courses e
same-leaving w v student courses e same = ap (λ x. leaving_opens x student courses e) same

same-taking : (w v : World) (spent : List ℕ) (student : StudentId) (choices : List Choice) (e : Waiting) → SameRows w v → taking_opens v spent student choices e ≡ taking_opens w spent student choices e
same-taking w v spent student choices e same = ap (λ x. taking_opens x spent student choices e) same

same-result : (w v : World) (spent : List ℕ) (student : StudentId) (result : LineResult) (e : Waiting) → SameRows w v → result_opens v spent student result e ≡ result_opens w spent student result e
same-result w v spent student (Met choice) e same = ap (λ x. may_need x (is_noted spent e) e (Enrol (record { student = student; choice = choice }))) same
same-result w v spent student (Held course) e same = refl
same-result w v spent student (Blocked visits tree) e same = refl
same-result w v spent student Spent e same = refl
same-result w v spent student (line_waits ticket) e same = refl
same-result w v spent student Skipped e same = refl

same-lines : (w v : World) (spent : List ℕ) (lines : List Line) (e : Waiting) → SameRows w v → lines_open v spent lines e ≡ lines_open w spent lines e
same-lines w v spent lines e same =
    any-same (λ (l : Line). result_opens v spent l.student l.result e) (λ (l : Line). result_opens w spent l.student l.result e) lines (λ l m. same-result w v spent l.student l.result e same)

-- ---- one entry, change after change

-- the world is kept, and the entry fits it and needs no search
pub record Stays (e : Waiting) (spent : List ℕ) (w : World) : Type 0 where
  pub kept : KeptWorld w
  pub fits : entry_fits w e ≡ true
  pub needless : Needless w (is_noted spent e) e

module _ (e : Waiting) (spent : List ℕ) where
  changed-stays : (w : World) (change : Change) → Fits w change → entry_fits (changed w change) e ≡ true → may_need w (is_noted spent e) e change ≡ false → Stays e spent w → Stays e spent (changed w change)
  changed-stays w change fits fit closed s = record {
    kept = changes-keep w change s.kept fits;
    fits = fit;
    needless = needless-stays w e (is_noted spent e) change s.kept fits s.fits closed s.needless;
  }

  leaves-stay : (w v : World) (student : StudentId) (all rest : List CourseId) → LeavesOn w v student all rest → leaving_opens v student rest e ≡ false → Stays e spent v → Stays e spent (leave_all v student rest)
  leaves-stay w v student all [] l closed s = s
  leaves-stay w v student all (c ∷ rest) l closed s =
      leaves-stay w (leave v student c) student all rest (leaves-more w v (leave v student c) student all c rest l refl) (neither-right (may_open v e (Leave student c)) _ closed)
      (changed-stays v (Leave student c) (leaves-next w v student all c rest l) s.fits (plain-need v e (is_noted spent e) (Leave student c) refl (neither-left (may_open v e (Leave student c)) _ closed)) s)

  takes-stay : (w v : World) (student : StudentId) (all rest : List Choice) → TakesOn w v student all rest → taking_opens v spent student rest e ≡ false → Stays e spent v → Stays e spent (enrol_all v student rest)
  takes-stay w v student all [] t closed s = s
  takes-stay w v student all (c ∷ rest) t closed s =
      let x : Enrolment = record { student = student; choice = c } in
      takes-stay w (enrol v student c) student all rest (takes-more w v (enrol v student c) student all c rest t refl) (neither-right (may_need v (is_noted spent e) e (Enrol x)) _ closed)
      (changed-stays v (Enrol x) (takes-next w v student all c rest t) s.fits (neither-left (may_need v (is_noted spent e) e (Enrol x)) _ closed) s)

  -- a swap that was made
  pub swap-stays : (w : World) (mv : Move) (choices : List Choice) → MoveFits w mv → is_allowed_move w mv choices ≡ true
      → leaving_opens (make_move w mv choices) mv.student mv.give e || taking_opens (make_move w mv choices) spent mv.student choices e ≡ false → Stays e spent w → Stays e spent (make_move w mv choices)
  swap-stays w mv choices fits allowed closed s =
      takes-stay v v mv.student choices choices
      (record { led = refl; wants = mv.take; allowed = allowed; known = ap (λ ss. is_some (find_student ss mv.student)) (leave_all-students mv.give w mv.student) ∙ fits.student })
      (sym (same-taking v u spent mv.student choices e (enrol_all-rows v mv.student choices)) ∙ neither-right (leaving_opens u mv.student mv.give e) _ closed)
      (leaves-stay w w mv.student mv.give mv.give (record { led = refl; held = fits.held; differ = fits.distinct })
      (sym (same-leaving w u mv.student mv.give e (same-rows w v u (leave_all-rows w mv.student mv.give) (enrol_all-rows v mv.student choices))) ∙ neither-left (leaving_opens u mv.student mv.give e) _ closed) s)
    where
      v : World
      v = leave_all w mv.student mv.give

      u : World
      u = make_move w mv choices

-- ---- the lines of a batch

-- what one of the lines may open, as they are answered
abbrev answers_open : World → List ℕ → List Answered → Waiting → Bool
answers_open w spent answered e = list_any (λ a. result_opens w spent a.line.student a.line.result e) answered

-- what a line is answered with may be enrolled, where it is met
answer-fits : (b : Batched) (student : StudentId) (rank : ℕ) (ask : CourseAsk) → is_some (find_student b.world.students student) ≡ true → MetFits b.world student (answer_to b student rank ask)
answer-fits b student rank ask known = by_held (find (holds b.world student) ask.courses)
  where
    by_skip : (skip : Bool) → MetFits b.world student (skipped_or (λ _. search_for b.world student ask rank) skip)
    by_skip true = tt
    by_skip false = met-fits b.world student rank ask (outcome_of b.world (request_move student ask rank) 2000) known refl

    by_held : (o : Option CourseId) → MetFits b.world student (held_or (λ _. skipped_or (λ _. search_for b.world student ask rank) (is_skipped b student ask)) o)
    by_held None = by_skip (is_skipped b student ask)
    by_held (Some course) = tt

-- the rows are the same, and where no line opens the entry it has no move
pub record Batching (e : Waiting) (spent : List ℕ) (w : World) (b : Batched) : Type 0 where
  pub same : SameRows w b.world
  pub stays : answers_open w spent b.answered e ≡ false → Stays e spent w → Stays e spent b.world

module _ (e : Waiting) (spent : List ℕ) (w : World) where
  line-batching : (b : Batched) (student : StudentId) (rank : ℕ) (ask : CourseAsk) → is_some (find_student w.students student) ≡ true → Batching e spent w b
      → Batching e spent w (add_line b student rank ask (answer_to b student rank ask))
  line-batching b student rank ask known g = by_result (answer_to b student rank ask) (answer-fits b student rank ask (ap (λ x. is_some (find_student x.students student)) g.same ∙ known))
    where
      lines : (result : LineResult) → answers_open w spent (add_line b student rank ask result).answered e ≡ false → (answers_open w spent b.answered e ≡ false) × (result_opens w spent student result e ≡ false)
      lines result closed =
          let added : List Answered = record { line = record { student = student; rank = rank; result = result }; ask = ask } ∷ [] in
          let each = sym (any-append (λ (a : Answered). result_opens w spent a.line.student a.line.result e) b.answered added) ∙ closed in (
            neither-left (answers_open w spent b.answered e) _ each,
            neither-left (result_opens w spent student result e) false (neither-right (answers_open w spent b.answered e) _ each),
          )

      by_result : (result : LineResult) → MetFits b.world student result → Batching e spent w (add_line b student rank ask result)
      by_result (Met choice) fits = record {
        same = same-rows w b.world (enrol b.world student choice) g.same refl;
        stays = λ closed old.
            let h = lines (Met choice) closed in
            let s = g.stays h.0 old in
            let x : Enrolment = record { student = student; choice = choice } in
            changed-stays e spent b.world (Enrol x) fits s.fits (ap (λ v. may_need v (is_noted spent e) e (Enrol x)) g.same ∙ h.1) s;
      }
      by_result (Held course) fits = record { same = g.same; stays = λ closed. g.stays (lines (Held course) closed).0 }
      by_result (Blocked visits tree) fits = record { same = g.same; stays = λ closed. g.stays (lines (Blocked visits tree) closed).0 }
      by_result Spent fits = record { same = g.same; stays = λ closed. g.stays (lines Spent closed).0 }
      by_result (line_waits ticket) fits = record { same = g.same; stays = λ closed. g.stays (lines (line_waits ticket) closed).0 }
      by_result Skipped fits = record { same = g.same; stays = λ closed. g.stays (lines Skipped closed).0 }

  asks-batching : (asks : List (ℕ × Ask)) (b : Batched) (student : StudentId) → is_some (find_student w.students student) ≡ true → Batching e spent w b → Batching e spent w (batch_asks b student asks)
  asks-batching [] b student known g = g
  asks-batching ((rank, Free pattern) ∷ asks) b student known g = asks-batching asks b student known g
  asks-batching ((rank, asks_course ask) ∷ asks) b student known g =
      asks-batching asks (add_line b student rank ask (answer_to b student rank ask)) student known (line-batching b student rank ask known g)

  students-batching : (students : List StudentId) (b : Batched) → list_all (λ s. is_some (find_student w.students s)) students ≡ true → Batching e spent w b → Batching e spent w (batch_students b students)
  students-batching [] b known g = g
  students-batching (student ∷ students) b known g =
      students-batching students (batch_asks b student (enumerate_from 1 (asks_of b.world student))) (both-right (is_some (find_student w.students student)) _ known)
      (asks-batching (enumerate_from 1 (asks_of b.world student)) b student (both-left _ _ known) g)

  pub batch-batching : (students : List StudentId) → list_all (λ s. is_some (find_student w.students s)) students ≡ true → Batching e spent w (batch_of w students)
  unfolding batch_of
  batch-batching students known = students-batching students (record { world = w; answered = [] }) known (record { same = refl; stays = λ closed s. s })

-- ---- the lines that wait

-- an unmet line opens nothing
unmet-opens : (w : World) (spent : List ℕ) (student : StudentId) (result : LineResult) (e : Waiting) → is_unmet result ≡ true → result_opens w spent student result e ≡ false
unmet-opens w spent student (Met choice) e h = cc
unmet-opens w spent student (Held course) e h = refl
unmet-opens w spent student (Blocked visits tree) e h = refl
unmet-opens w spent student Spent e h = refl
unmet-opens w spent student (line_waits ticket) e h = cc
unmet-opens w spent student Skipped e h = refl

-- lines joined: the world stays, and an entry that none of the lines opens stood there, and none of their answers opens it
pub record Joins (e : Waiting) (spent : List ℕ) (w : World) (j k : Joined) (answered : List Answered) : Type 0 where
  pub world : k.state.world ≡ j.state.world
  pub lines : lines_open w spent k.lines e ≡ false → (lines_open w spent j.lines e ≡ false) × (answers_open w spent answered e ≡ false)
  pub there : lines_open w spent k.lines e ≡ false → Among k.state.entries e → Among j.state.entries e

module _ (e : Waiting) (spent : List ℕ) (w : World) where
  one-line : (lines : List Line) (l : Line) → lines_open w spent (lines ++ l ∷ []) e ≡ false → (lines_open w spent lines e ≡ false) × (result_opens w spent l.student l.result e ≡ false)
  one-line lines l closed =
      let each = sym (any-append (λ (x : Line). result_opens w spent x.student x.result e) lines (l ∷ [])) ∙ closed in (
        neither-left (lines_open w spent lines e) _ each,
        neither-left (result_opens w spent l.student l.result e) false (neither-right (lines_open w spent lines e) _ each),
      )

  line-joins : (j : Joined) (a : Answered) → Joins e spent w j (join_line j a) (a ∷ [])
  line-joins j a = by_test (is_unmet a.line.result && a.ask.wait) refl
    where
      no : {P : Type 0} → true ≡ false → P
      no h = absurd (not_both true refl h)

      unmet : is_unmet a.line.result ≡ true → answers_open w spent (a ∷ []) e ≡ false
      unmet h = neither (result_opens w spent a.line.student a.line.result e) false (unmet-opens w spent a.line.student a.line.result e h) refl

      by_ticket : is_unmet a.line.result ≡ true → (o : Option ℕ) → Joins e spent w j (join_by j a o) (a ∷ [])
      by_ticket h (Some ticket) = record {
        world = refl;
        lines = λ closed. ((one-line j.lines (with_result a.line (line_waits ticket)) closed).0, unmet h);
        there = λ closed among. among;
      }
      by_ticket h None = record {
        world = refl;
        lines = λ closed. ((one-line j.lines (with_result a.line (line_waits j.state.next)) closed).0, unmet h);
        there = λ closed among. new (one-line j.lines (with_result a.line (line_waits j.state.next)) closed).1 among;
      }
        where
          joined : Waiting
          joined = record { ticket = j.state.next; student = a.line.student; want = want_of a.ask a.line.rank; give = None; class = 5 }

          by_place : j.state.next == e.ticket ≡ false → Among j.state.entries e ⊎ Among (joined ∷ []) e → Among j.state.entries e
          by_place other (inl old) = old
          by_place other (inr (inl is)) = no (sym (eq-eqb j.state.next e.ticket (ap (λ (x : Waiting). x.ticket) is)) ∙ other)
          by_place other (inr (inr none)) = absurd none

          new : j.state.next == e.ticket ≡ false → Among (j.state.entries ++ joined ∷ []) e → Among j.state.entries e
          new other among = by_place other (among-append j.state.entries joined e among)

      by_test : (b : Bool) → is_unmet a.line.result && a.ask.wait ≡ b
          → Joins e spent w j (cond b (join_by j a (ticket_of j.state a.line.student a.ask.courses)) (record j { lines = j.lines ++ a.line ∷ [] })) (a ∷ [])
      by_test true h = by_ticket (both-left (is_unmet a.line.result) a.ask.wait h) (ticket_of j.state a.line.student a.ask.courses)
      by_test false h = record {
        world = refl;
        lines = λ closed.
            let l = one-line j.lines a.line closed in (l.0, neither (result_opens w spent a.line.student a.line.result e) false l.1 refl);
        there = λ closed among. among;
      }

  pub lines-join : (answered : List Answered) (j : Joined) → Joins e spent w j (join_lines j answered) answered
  lines-join [] j = record { world = refl; lines = λ closed. (closed, refl); there = λ closed among. among }
  lines-join (a ∷ rest) j =
      let one = line-joins j a in
      let more = lines-join rest (join_line j a) in
      record {
        world = more.world ∙ one.world;
        lines = λ closed.
            let behind = more.lines closed in
            let before = one.lines behind.0 in (
              before.0,
              neither (result_opens w spent a.line.student a.line.result e) (answers_open w spent rest e) (neither-left (result_opens w spent a.line.student a.line.result e) false before.1) behind.1,
            );
        there = λ closed among. one.there (more.lines closed).0 (more.there closed among);
      }

-- once a batch was made, an entry that none of its lines opens stood there before, and needs no search where it needed none
pub batch-stays : (s : State) (spent : List ℕ) (students : List StudentId) (e : Waiting) → list_all (λ x. is_some (find_student s.world.students x)) students ≡ true → (Among s.entries e → Stays e spent s.world)
    → (k : Joined) → k ≡ join_lines (record { state = record s { world = (batch_of s.world students).world }; lines = [] }) (batch_of s.world students).answered
    → lines_open k.state.world spent k.lines e ≡ false → Among k.state.entries e → Needless k.state.world (is_noted spent e) e
batch-stays s spent students e known stays k is none among =
    let b : Batched = batch_of s.world students in
    let j : Joined = record { state = record s { world = b.world }; lines = [] } in
    let g : Batching e spent s.world b = batch-batching e spent s.world students known in
    let joins : Joins e spent s.world j k b.answered = subst (λ x. Joins e spent s.world j x b.answered) (sym is) (lines-join e spent s.world b.answered j) in
    let same : SameRows s.world k.state.world = subst (SameRows s.world) (sym joins.world) g.same in
    let closed = sym (same-lines s.world k.state.world spent k.lines e same) ∙ none in
    subst (λ v. Needless v (is_noted spent e) e) (sym joins.world) (g.stays (joins.lines closed).1 (stays (joins.there closed among))).needless
