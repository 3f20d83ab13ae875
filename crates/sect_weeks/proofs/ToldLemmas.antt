-- Calendars that were told of one enrolment more, or less.
use Rattle.std.specs.Prelude.{◌≡◌, ◌+◌, ◌*◌, ◌<◌, ◌≤◌, ℕ, ◌==◌, Bool, true, false, ◌&&◌, ◌||◌, cond, filter, length, sum_by, List, refl}
use Rattle.std.specs.List.{list_any}
use Rattle.std.proofs.Common.{sym, ◌∙◌, ap, subst, arith}
use Rattle.std.proofs.lemmas.Bool.{eqb-true}
use Rattle.sect_base.specs.declared.ids.StudentId.{StudentId}
use Rattle.sect_model.specs.declared.held.Enrolment.{Enrolment}
use Rattle.sect_model.specs.World.{World, held_by, credits_of}
use Rattle.sect_model.specs.Allowed.{credits_held}
use Rattle.sect_numbers.specs.OneMore.{with_roster, IsMore}
use Rattle.sect_numbers.proofs.MoreLemmas.{credits-more}
use Rattle.sect_weeks.specs.Busy.{is_busy}
use Rattle.sect_weeks.specs.Laws.{EnrolledIsTold, LeftIsTold, KeptIsTold}
use Rattle.sect_weeks.specs.Credits.{course_credits, all_credits}
use Rattle.sect_weeks.specs.Rows.{is_taken, credits_at}
use Rattle.sect_weeks.specs.Taken.{sections_take, enrolments_take}
use Rattle.sect_weeks.proofs.BusyLemmas.{busy-more}

or-turn : (a b : Bool) → a || b ≡ b || a
or-turn true true = refl
or-turn true false = refl
or-turn false true = refl
or-turn false false = refl

-- the student holds one enrolment more, and the others what they held
held-more : (w : World) (more : List Enrolment) (e : Enrolment) → IsMore w.roster more e → (id : StudentId)
    → length (held_by (with_roster w more) id) ≡ cond (e.student.0 == id.0) 1 0 + length (held_by w id)
held-more w more e m id = m.counts (λ x. x.student.0 == id.0)

-- one enrolment more brings at most 255 credits
few-more : (b : Bool) (u t one more held : ℕ) → u ≡ cond b one 0 + t → one ≤ 255 → t ≤ 255 * held → more ≡ cond b 1 0 + held → u ≤ 255 * more
few-more true u t one more held e f g h = omega (arith, e, f, g, h)
few-more false u t one more held e f g h = omega (arith, e, f, g, h)

pub enrolled-is-told : EnrolledIsTold
enrolled-is-told t u w more e m told takes = record {
  taken = λ id day slot within.
      takes.taken id.0 day slot within
      ∙ ap (λ b. b || e.student.0 == id.0 && sections_take w.catalogue.rows e.choice.sections day slot) (told.taken id day slot within)
      ∙ or-turn (is_busy w id day slot) (e.student.0 == id.0 && sections_take w.catalogue.rows e.choice.sections day slot)
      ∙ sym (busy-more w more e m id day slot);
  credits = λ id.
      takes.credits id.0
      ∙ ap (λ n. cond (e.student.0 == id.0) (credits_of w e.choice.course) 0 + n) (told.credits id)
      ∙ sym (credits-more w more e m id);
  few = λ id.
      few-more (e.student.0 == id.0) (credits_at u id.0) (credits_at t id.0) (course_credits w.catalogue.rows e.choice.course)
      (length (held_by (with_roster w more) id)) (length (held_by w id)) (takes.credits id.0) takes.few (told.few id) (held-more w more e m id);
  students = λ id known. takes.rows_stay id.0 ∙ told.students id known;
}

pub left-is-told : LeftIsTold
left-is-told t u w more e m told takes = record {
  taken = λ id day slot within. takes.taken id.0 day slot within ∙ by_test id day slot within (e.student.0 == id.0) refl;
  credits = λ id. takes.credits id.0 ∙ by_own id (e.student.0 == id.0) refl;
  few = λ id. subst (λ n. n ≤ 255 * length (held_by w id)) (sym (takes.credits id.0)) (few_by id (e.student.0 == id.0) refl);
  students = λ id known. takes.rows_stay id.0 ∙ told.students id known;
}
  where
    by_test : (id : StudentId) (day slot : ℕ) → slot < 288 → (b : Bool) → e.student.0 == id.0 ≡ b
        → cond b (enrolments_take w.catalogue.rows (held_by w e.student) day slot) (is_taken t id.0 day slot) ≡ is_busy w id day slot
    by_test id day slot within true own =
        ap (λ n. list_any (λ x. sections_take w.catalogue.rows x.choice.sections day slot) (filter (λ x. x.student.0 == n) w.roster)) (eqb-true e.student.0 id.0 own)
    by_test id day slot within false other =
        told.taken id day slot within
        ∙ busy-more w more e m id day slot
        ∙ ap (λ b. b && sections_take w.catalogue.rows e.choice.sections day slot || is_busy w id day slot) other

    by_own : (id : StudentId) (b : Bool) → e.student.0 == id.0 ≡ b → cond b (all_credits w.catalogue.rows (held_by w e.student)) (credits_at t id.0) ≡ credits_held w id
    by_own id true own = ap (λ n. sum_by (λ x. credits_of w x.choice.course) (filter (λ x. x.student.0 == n) w.roster)) (eqb-true e.student.0 id.0 own)
    by_own id false other =
        let less = ap (λ b. cond b (credits_of w e.choice.course) 0 + credits_held w id) other in
        let same : 0 + credits_held w id ≡ credits_held w id = omega arith in
        told.credits id ∙ credits-more w more e m id ∙ less ∙ same

    few_by : (id : StudentId) (b : Bool) → e.student.0 == id.0 ≡ b → cond b (all_credits w.catalogue.rows (held_by w e.student)) (credits_at t id.0) ≤ 255 * length (held_by w id)
    few_by id true own =
        subst (λ n. all_credits w.catalogue.rows (held_by w e.student) ≤ 255 * length (filter (λ x. x.student.0 == n) w.roster)) (eqb-true e.student.0 id.0 own) takes.few
    few_by id false other =
        let less = held-more w more e m id ∙ ap (λ b. cond b 1 0 + length (held_by w id)) other in
        omega (arith, told.few id, less)

pub kept-is-told : KeptIsTold
kept-is-told t u w told keeps = record {
  taken = λ id day slot within. keeps.taken id.0 day slot ∙ told.taken id day slot within;
  credits = λ id. keeps.credits id.0 ∙ told.credits id;
  few = λ id. subst (λ n. n ≤ 255 * length (held_by w id)) (sym (keeps.credits id.0)) (told.few id);
  students = λ id known. keeps.rows id.0 (told.students id known);
}
