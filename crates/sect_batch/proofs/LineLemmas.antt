-- What a line is, as it follows from the lines that are kept.
use Rattle.std.specs.Prelude.{◌≡◌, ℕ, Bool, true, false, not, ◌&&◌, ◌||◌, ◌==◌, nat_le, cond, List, [], ◌∷◌, length, map, filter, find, count_by, Option, Some, None, Result, Ok, Err, IfOk, refl}
use Rattle.std.specs.Option.{is_some}
use Rattle.std.proofs.Common.{sym, ◌∙◌, ap, arith}
use Rattle.std.proofs.lemmas.Bool.{both_ways}
use Rattle.std.proofs.lemmas.List.Sums.{length-filter}
use Rattle.sect_base.specs.declared.ids.StudentId.{StudentId}
use Rattle.sect_base.specs.declared.ids.CourseId.{CourseId}
use Rattle.sect_people.specs.Student.{find_student}
use Rattle.sect_people.specs.declared.row.CourseAsk.{CourseAsk}
use Rattle.sect_command.specs.declared.reply.LineResult.{LineResult}
use Rattle.sect_command.specs.declared.reply.LineResult.TheVariants.{Held, Skipped}
use Rattle.sect_model.specs.declared.pick.Outcome.{Outcome}
use Rattle.sect_model.specs.declared.pick.Outcome.TheVariants.{Found, Blocked as blocked, Spent as spent}
use Rattle.sect_model.specs.World.{World, enrol, held_by, holds}
use Rattle.sect_model.specs.Allowed.{is_allowed}
use Rattle.sect_model.specs.Move.{are_allowed}
use Rattle.sect_model.specs.Outcome.{outcome_of}
use Rattle.sect_model.specs.Settle.{found_in}
use Rattle.sect_model.specs.Batch.{Answered, Batched, answer_to, held_or, skipped_or, is_skipped, search_for, result_of, request_move, want_of, unmet_requests, met_substitutes, is_unmet, is_met}
use Rattle.sect_model.proofs.ListLemmas.{any-filter-both}
use Rattle.sect_model.proofs.Members.{both-left}
use Rattle.sect_model.proofs.KeptMoves.{found-allowed}
use Rattle.sect_batch.specs.declared.lines.Lines.{Lines}
use Rattle.sect_batch.specs.declared.lines.Mark.{Mark}
use Rattle.sect_batch.specs.Lines.{Tells, MetFits, has_course, mark_of, is_counted, unmet_of, met_of}

-- ---- what marks count

kept-same : {X Y : Type 0} (p : X → Bool) (q : Y → Bool) (f : X → Y) → ((x : X) → q (f x) ≡ p x) → (xs : List X) → length (filter q (map f xs)) ≡ length (filter p xs)
kept-same p q f same [] = refl
kept-same p q f same (x ∷ xs) = ap (λ b. length (cond b (f x ∷ filter q (map f xs)) (filter q (map f xs)))) (same x) ∙ by_test (p x) (kept-same p q f same xs)
  where
    by_test : (b : Bool) → length (filter q (map f xs)) ≡ length (filter p xs)
        → length (cond b (f x ∷ filter q (map f xs)) (filter q (map f xs))) ≡ length (cond b (x ∷ filter p xs) (filter p xs))
    by_test true ih = omega (arith, ih)
    by_test false ih = ih

count-same : {X Y : Type 0} (p : X → Bool) (q : Y → Bool) (f : X → Y) → ((x : X) → q (f x) ≡ p x) → (xs : List X) → count_by q (map f xs) ≡ length (filter p xs)
count-same p q f same xs = sym (length-filter q (map f xs)) ∙ kept-same p q f same xs

grouped : (a b c : Bool) → a && (b && c) ≡ a && b && c
grouped true b c = refl
grouped false b c = refl

both-kept : {X : Type 0} (p q : X → Bool) → ((x : X) → q x ≡ false → p x ≡ false) → (xs : List X) → length (filter p (filter q xs)) ≡ length (filter p xs)
both-kept p q only [] = refl
both-kept p q only (x ∷ xs) = by_test (q x) refl (both-kept p q only xs)
  where
    one_more : (b : Bool) → length (filter p (filter q xs)) ≡ length (filter p xs) → length (cond b (x ∷ filter p (filter q xs)) (filter p (filter q xs))) ≡ length (cond b (x ∷ filter p xs) (filter p xs))
    one_more true ih = omega (arith, ih)
    one_more false ih = ih

    by_test : (b : Bool) → q x ≡ b → length (filter p (filter q xs)) ≡ length (filter p xs)
        → length (filter p (cond b (x ∷ filter q xs) (filter q xs))) ≡ length (cond (p x) (x ∷ filter p xs) (filter p xs))
    by_test true e ih = one_more (p x) ih
    by_test false e ih = ih ∙ (λ i. length (cond (sym (only x e) i) (x ∷ filter p xs) (filter p xs)))

-- marks that aren't counted may be left out
counted-same : (p : Mark → Bool) → ((m : Mark) → is_counted m ≡ false → p m ≡ false) → (ms : List Mark) → count_by p (filter is_counted ms) ≡ count_by p ms
counted-same p only ms = sym (length-filter p (filter is_counted ms)) ∙ both-kept p is_counted only ms ∙ length-filter p ms

no_first : (a b c : Bool) → b || c ≡ false → a && b ≡ false
no_first a true true e = absurd (both_ways true e refl)
no_first a true false e = absurd (both_ways true e refl)
no_first true false c e = refl
no_first false false c e = refl

no_second : (a b c : Bool) → b || c ≡ false → a && c ≡ false
no_second a true true e = absurd (both_ways true e refl)
no_second a true false e = absurd (both_ways true e refl)
no_second a false true e = absurd (both_ways true e refl)
no_second true false false e = refl
no_second false false false e = refl

unmet-same : (student : StudentId) (answered : List Answered) → unmet_of student (map mark_of answered) ≡ unmet_requests student answered
unmet-same student answered =
    count-same (λ a. a.line.student.0 == student.0 && is_unmet a.line.result && not (a.ask.substitute || a.ask.wait)) (λ m. m.student.0 == student.0 && m.unmet) mark_of
    (λ a. grouped (a.line.student.0 == student.0) (is_unmet a.line.result) (not (a.ask.substitute || a.ask.wait))) answered

met-same : (student : StudentId) (answered : List Answered) → met_of student (map mark_of answered) ≡ met_substitutes student answered
met-same student answered =
    count-same (λ a. a.line.student.0 == student.0 && is_met a.line.result && a.ask.substitute) (λ m. m.student.0 == student.0 && m.met) mark_of
    (λ a. grouped (a.line.student.0 == student.0) (is_met a.line.result) a.ask.substitute) answered

-- the marks tell whether a substitute is skipped
skipped-same : (w : World) (l : Lines) (b : Batched) (student : StudentId) (ask : CourseAsk) → Tells w l b
    → ask.substitute && nat_le (unmet_of student l.marks.items) (met_of student l.marks.items) ≡ is_skipped b student ask
skipped-same w l b student ask t = λ i. ask.substitute && nat_le (unmet i) (met i)
  where
    unmet : unmet_of student l.marks.items ≡ unmet_requests student b.answered
    unmet = ap (unmet_of student) t.marks
        ∙ counted-same (λ m. m.student.0 == student.0 && m.unmet) (λ m. no_first (m.student.0 == student.0) m.unmet m.met) (map mark_of b.answered)
        ∙ unmet-same student b.answered

    met : met_of student l.marks.items ≡ met_substitutes student b.answered
    met = ap (met_of student) t.marks
        ∙ counted-same (λ m. m.student.0 == student.0 && m.met) (λ m. no_second (m.student.0 == student.0) m.unmet m.met) (map mark_of b.answered)
        ∙ met-same student b.answered

-- ---- what is held

-- among the student's enrolments
pub held-same : (w : World) (student : StudentId) (courses : List CourseId) → find (has_course (held_by w student)) courses ≡ find (holds w student) courses
held-same w student courses = λ i. find (λ course. any-filter-both (λ e. e.student.0 == student.0) (λ e. e.choice.course.0 == course.0) w.roster i) courses

-- ---- the line

module _ (w : World) (l : Lines) (student : StudentId) (rank : ℕ) (ask : CourseAsk) where
  -- by what the student holds, and by whether it is skipped
  line-is : (b : Batched) → Tells w l b → (held : Option CourseId) (skip : Bool) → find (holds w student) ask.courses ≡ held
      → ask.substitute && nat_le (unmet_of student l.marks.items) (met_of student l.marks.items) ≡ skip
      → answer_to b student rank ask ≡ held_or (λ _. skipped_or (λ _. search_for w student ask rank) skip) held
  line-is b t held skip e f =
      λ i. held_or (λ _. skipped_or (λ _. search_for (sym t.world i) student ask rank) ((sym (skipped-same w l b student ask t) ∙ f) i)) ((ap (λ v. find (holds v student) ask.courses) (sym t.world) ∙ e) i)

  pub held-line : (b : Batched) (course : CourseId) → Tells w l b → Some course ≡ find (holds w student) ask.courses → Held course ≡ answer_to b student rank ask
  held-line b course t e = sym (line-is b t (Some course) (ask.substitute && nat_le (unmet_of student l.marks.items) (met_of student l.marks.items)) (sym e) refl)

  pub skipped-line : (b : Batched) → Tells w l b → None ≡ find (holds w student) ask.courses → ask.substitute && nat_le (unmet_of student l.marks.items) (met_of student l.marks.items) ≡ true
      → Skipped ≡ answer_to b student rank ask
  skipped-line b t e f = sym (line-is b t None true (sym e) f)

  pub searched-line : {E : Type 0} (r : Result LineResult E) → None ≡ find (holds w student) ask.courses → ask.substitute && nat_le (unmet_of student l.marks.items) (met_of student l.marks.items) ≡ false
      → IfOk r (λ line. line ≡ search_for w student ask rank) → IfOk r (λ line. (b : Batched) → Tells w l b → line ≡ answer_to b student rank ask)
  searched-line (Ok line) e f is = λ b t. is ∙ sym (line-is b t None false (sym e) f)
  searched-line (Err x) e f is = tt

-- what a search found may be enrolled
pub met-fits : (w : World) (student : StudentId) (rank : ℕ) (ask : CourseAsk) (o : Outcome) → is_some (find_student w.students student) ≡ true
    → outcome_of w (request_move student ask rank) 2000 ≡ o → MetFits w student (result_of o)
met-fits w student rank ask (Found [] visits) known e = tt
met-fits w student rank ask (Found (c ∷ cs) visits) known e = (
  known,
  want_of ask rank,
  both-left (is_allowed w student (want_of ask rank) c) (are_allowed (enrol w student c) student [] cs) (found-allowed w (request_move student ask rank) 2000 (c ∷ cs) (ap found_in e)),
)
met-fits w student rank ask (blocked tree visits) known e = tt
met-fits w student rank ask (spent budget) known e = tt
