-- Runs of weeks printed one after another.
use Rattle.std.specs.Prelude.{◌≡◌, ℕ, ◌+◌, ◌-◌, ◌*◌, ◌≤◌, ◌==◌, Bool, true, false, List, [], ◌∷◌, ◌++◌, length, map, min, if◌then◌else◌, refl}
use Rattle.std.specs.List.{join_with_byte}
use Rattle.std.proofs.Common.{sym, ap, ◌∙◌, arith, append-nil, append_assoc}
use Rattle.std.proofs.lemmas.Bool.{ne_eqb}
use Rattle.sect_base.specs.Pattern.{has_bit}
use Rattle.sect_base.specs.WeekText.{Run, runs_from, run_text, weeks_text, IsFirstFrom, IsLastFrom, next_run_text}
use Rattle.sect_base.proofs.WeekRuns.{run, runs_from-none, runs_from-cons}

-- runs, each after a dot
abbrev pub dotted : List Run → List ℕ
dotted [] = []
dotted (first ∷ more) = 46 ∷ run_text first ++ dotted more

-- what is still to be printed, of which the first has no dot where nothing was printed yet
abbrev pub to_print : Bool → List Run → List ℕ
to_print starts runs = (if starts then join_with_byte 46 (map run_text runs) else dotted runs)

join-dotted : (first : Run) (more : List Run) → join_with_byte 46 (map run_text (first ∷ more)) ≡ run_text first ++ dotted more
join-dotted first [] = sym (append-nil (run_text first))
join-dotted first (next ∷ more) = ap (λ t. run_text first ++ 46 ∷ t) (join-dotted next more)

to_print-cons : (starts : Bool) (first : Run) (more : List Run) → to_print starts (first ∷ more) ≡ next_run_text starts first ++ dotted more
to_print-cons true first more = join-dotted first more
to_print-cons false first more = refl

to_print-nil : (starts : Bool) → to_print starts [] ≡ []
to_print-nil true = refl
to_print-nil false = refl

-- the runs before this week are printed
pub record Printed (weeks : ℕ) (old now : List ℕ) (week : ℕ) : Type 0 where
  pub is : now ++ to_print (week == 0) (runs_from weeks week (60 - week)) ≡ old ++ weeks_text weeks
  pub room : length now ≤ length old + 2 * week
  pub within : week ≤ 61

pub printed_none : (weeks : ℕ) (old : List ℕ) → Printed weeks old old 0
unfolding weeks_text
printed_none weeks old = record { is = refl; room = omega arith; within = omega arith }

pub printed_more : (weeks : ℕ) (old now next : List ℕ) (week first last : ℕ) → Printed weeks old now week → IsFirstFrom weeks week first → IsLastFrom weeks first last
    → next ≡ now ++ next_run_text (week == 0) (run first last) → length next ≤ length now + 3 * min 2 (last + 1 - first)
    → Printed weeks old next (last + 2)
printed_more weeks old now next week first last so_far begins ends is longer = record {
  is =
      let rest = runs_from weeks (last + 2) (60 - (last + 2)) in
      ap (λ t. t ++ to_print (last + 2 == 0) rest) is
      ∙ ap (λ b. (now ++ next_run_text (week == 0) (run first last)) ++ to_print b rest) (ne_eqb (last + 2) 0 (λ same. omega arith))
      ∙ append_assoc now (next_run_text (week == 0) (run first last)) (dotted rest)
      ∙ ap (λ t. now ++ t) (sym (to_print-cons (week == 0) (run first last) rest))
      ∙ ap (λ runs. now ++ to_print (week == 0) runs) (sym (runs_from-cons (60 - week) weeks week first last (omega (arith, begins.begins, ends.order, ends.ends)) begins ends))
      ∙ so_far.is;
  room = omega (arith, longer, so_far.room, begins.begins, ends.order);
  within = omega (arith, ends.ends);
}

pub printed_all : (weeks : ℕ) (old now : List ℕ) (week : ℕ) → Printed weeks old now week → ((k : ℕ) → week ≤ k → has_bit weeks k ≡ false) → now ≡ old ++ weeks_text weeks
printed_all weeks old now week so_far none =
    sym (ap (λ runs. now ++ to_print (week == 0) runs) (runs_from-none (60 - week) weeks week none) ∙ ap (λ t. now ++ t) (to_print-nil (week == 0)) ∙ append-nil now)
    ∙ so_far.is
