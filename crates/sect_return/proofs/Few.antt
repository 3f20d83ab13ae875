-- A student's row that isn't refused has few groups and curricula.
use Rattle.std.specs.Prelude.{◌≡◌, ℕ, zero, suc, Bool, true, false, not, ◌==◌, nat_lt, nat_le, cond, List, [], ◌∷◌, ◌++◌, length, map, Option, Some, None, refl}
use Rattle.std.specs.Bool.{then_some}
use Rattle.std.specs.List.{list_all}
use Rattle.std.specs.Option.{is_none, is_some}
use Rattle.std.proofs.Common.{◌∙◌, ap, arith}
use Rattle.std.proofs.lemmas.Bool.Decides.{nat_tests}
use Rattle.std.proofs.lemmas.List.Folds.{list_all-map}
use Rattle.sect_base.specs.Capped.{capped}
use Rattle.sect_command.specs.declared.command.Command.TheVariants.{Student as student_row}
use Rattle.sect_command.specs.declared.reply.Refusal.{Refusal}
use Rattle.sect_command.specs.declared.reply.Refusal.TheVariants.{NotYours, TooMany}
use Rattle.sect_model.proofs.Easy.{all-one}
use Rattle.sect_model.proofs.KeptMoves.{move-students}
use Rattle.sect_model.proofs.Members.{all-at, all-of, both, not_both}
use Rattle.sect_model.proofs.OfferingChange.{none-left, none-right}
use Rattle.sect_model.specs.Data.{Caller, Student, StudentRow}
use Rattle.sect_model.specs.Refusals.{conditions_of, credits_above, first_of, is_yours, many_students, refusal_of, too_many}
use Rattle.sect_model.specs.Settle.{choices_for, move_of, next_entry, place, settle, settle_by, settle_within}
use Rattle.sect_model.specs.Step.{act, answered, on_day, refused_or, step}
use Rattle.sect_model.specs.World.{State}
use Rattle.sect_model.specs.declared.held.Waiting.{Waiting}
use Rattle.sect_people.specs.Changes.{put_row, with_row}
use Rattle.sect_people.specs.Student.{find_student}
use Rattle.sect_return.specs.Checked.{has_few, is_few}

-- settling changes no student
settled_students : (n : ℕ) (s : State) → (settle_within n s).state.world.students ≡ s.world.students
settled_students zero s = refl
settled_students (suc n) s = by_next (next_entry s) (λ e. settled_students n (place s e))
  where
    by_next : (o : Option Waiting) → ((e : Waiting) → (settle_within n (place s e)).state.world.students ≡ (place s e).world.students)
        → (settle_by s (λ e. settle_within n (place s e)) o).state.world.students ≡ s.world.students
    by_next None more = refl
    by_next (Some e) more = more e ∙ move-students s.world (move_of s.world e) (choices_for s.world e)

at_most : (most n : ℕ) → is_none (too_many most n) ≡ true → nat_le n most ≡ true
at_most most n h = by (nat_lt most n) refl h
  where
    within : nat_lt most n ≡ false → nat_le n most ≡ true
    within e = grind (arith, nat_tests, e)

    by : (b : Bool) → nat_lt most n ≡ b → is_none (then_some b (TooMany (capped n))) ≡ true → nat_le n most ≡ true
    by true e h = absurd (not_both false h refl)
    by false e h = within e

-- a row that isn't refused
few_row : (s : State) (caller : Caller) (row : StudentRow) → refusal_of s caller (student_row row) ≡ None → is_few row ≡ true
unfolding refusal_of
few_row s caller row h =
    both (nat_le (length row.groups) 50) (nat_le (length row.curricula) 10) (at_most 50 (length row.groups) (none-left (too_many 50 (length row.groups)) _ behind))
    (at_most 10 (length row.curricula) (none-left (too_many 10 (length row.curricula)) _ (none-right (too_many 50 (length row.groups)) _ behind)))
  where
    whole : is_none (first_of (then_some (not (is_yours caller (student_row row))) NotYours ∷ conditions_of s (student_row row))) ≡ true
    whole = ap is_none h

    behind : is_none (first_of (too_many 50 (length row.groups) ∷ too_many 10 (length row.curricula) ∷ credits_above s.world row ∷ [])) ≡ true
    behind = none-right (many_students s.world row) _ (none-right (then_some (not (is_yours caller (student_row row))) NotYours) (first_of (conditions_of s (student_row row))) whole)

few_with : (row : StudentRow) (s : Student) → is_few row ≡ true → has_few s ≡ true → has_few (with_row row s) ≡ true
few_with row s few had = by (s.row.id.0 == row.id.0)
  where
    by : (b : Bool) → has_few (cond b (record s { row = row }) s) ≡ true
    by true = few
    by false = had

few_put : (row : StudentRow) (students : List Student) → is_few row ≡ true → list_all has_few students ≡ true → list_all has_few (put_row students row) ≡ true
few_put row students few had = by (is_some (find_student students row.id))
  where
    by : (b : Bool) → list_all has_few (cond b (map (with_row row) students) (students ++ record { row = row; asks = [] } ∷ [])) ≡ true
    by true = list_all-map has_few (with_row row) students ∙ all-of (λ s. has_few (with_row row s)) students (λ s m. few_with row s few (all-at has_few students had s m))
    by false = all-one has_few students (record { row = row; asks = [] }) had few

-- a command for a student leaves students with few groups and curricula
pub few_after : (s : State) (day : ℕ) (caller : Caller) (row : StudentRow) → list_all has_few s.world.students ≡ true → list_all has_few (step s day caller (student_row row)).state.world.students ≡ true
unfolding step settle
few_after s day caller row had =
    ap (list_all has_few) (settled_students (length (answered (on_day s day) caller (student_row row)).state.entries) (answered (on_day s day) caller (student_row row)).state)
    ∙ by (refusal_of (on_day s day) caller (student_row row)) refl
  where
    by : (o : Option Refusal) → refusal_of (on_day s day) caller (student_row row) ≡ o → list_all has_few (refused_or (on_day s day) (λ t. act t (student_row row)) o).state.world.students ≡ true
    by None e = few_put row s.world.students (few_row (on_day s day) caller row e) had
    by (Some refusal) e = had
