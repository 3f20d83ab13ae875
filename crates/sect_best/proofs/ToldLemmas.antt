-- The trees of a plan have a text.
use Rattle.std.specs.Prelude.{◌≡◌, ℕ, zero, suc, ◌≤◌, List, [], ◌∷◌, Result, Ok, Err, IfOk}
use Rattle.std.proofs.Common.{sym, subst, arith}
use Rattle.sect_base.specs.Tree.{Tree, Trees, broken, split, none, more}
use Rattle.sect_command.specs.TreeText.{HasText, HaveTexts}
use Rattle.sect_model.specs.declared.pick.Outcome.{Outcome}
use Rattle.sect_model.specs.declared.pick.Outcome.TheVariants.{Found, Blocked, Spent}
use Rattle.sect_model.specs.Data.{Choice}
use Rattle.sect_search.specs.Texts.{IsToldIn}
use Rattle.sect_best.specs.Plan.{judged_also, line_then, lines_of}
use Rattle.sect_best.specs.Told.{VerdictIsTold, AreTold, LinesAreTold}
use Rattle.sect_best.specs.declared.line.PlanLine.{PlanLine}
use Rattle.sect_best.specs.declared.planned.Judged.{Judged}
use Rattle.sect_best.specs.declared.planned.Verdict.{Verdict}
use Rattle.sect_best.specs.declared.planned.Verdict.TheVariants.{Kept, Unmet, Spent as spent_verdict}

-- ---- more brackets allowed

mutual
  deeper : (few many : ℕ) → few ≤ many → (t : Tree) → HasText few t → HasText many t
  deeper few many h (broken rule number) x = x
  deeper zero many h (split ts) x = absurd x
  deeper (suc few) zero h (split ts) x = absurd (omega (arith, h))
  deeper (suc few) (suc many) h (split none) x = absurd x
  deeper (suc few) (suc many) h (split (more t ts)) x = (deeper few many (omega (arith, h)) t x.0, all-deeper few many (omega (arith, h)) ts x.1)

  all-deeper : (few many : ℕ) → few ≤ many → (ts : Trees) → HaveTexts few ts → HaveTexts many ts
  all-deeper few many h none x = tt
  all-deeper few many h (more t ts) x = (deeper few many h t x.0, all-deeper few many h ts x.1)

pub told-deeper : (few many : ℕ) → few ≤ many → (o : Outcome) → IsToldIn few o → IsToldIn many o
told-deeper few many h (Found choices visits) x = tt
told-deeper few many h (Blocked tree visits) x = deeper few many h tree x
told-deeper few many h (Spent visits) x = tt

-- ---- verdicts and lines

pub told-also : (js : List Judged) (rank : ℕ) (v : Verdict) → AreTold js → VerdictIsTold v → AreTold (judged_also js rank v)
told-also [] rank v told one = (one, tt)
told-also (j ∷ js) rank v told one = (told.0, told-also js rank v told.1 one)

line-told : (rank : ℕ) (v : Verdict) (choices : List Choice) (later : List Choice → List PlanLine) → VerdictIsTold v → ((left : List Choice) → LinesAreTold (later left))
    → LinesAreTold (line_then rank v choices later)
line-told rank Kept [] later one rest = tt
line-told rank Kept (c ∷ cs) later one rest = (tt, rest cs)
line-told rank (Unmet tree visits) choices later one rest = (one, rest choices)
line-told rank spent_verdict choices later one rest = (tt, rest choices)

lines-told : (js : List Judged) → AreTold js → (choices : List Choice) → LinesAreTold (lines_of choices js)
lines-told [] told choices = tt
lines-told (j ∷ js) told choices = line-told j.rank j.verdict choices (λ left. lines_of left js) told.0 (lines-told js told.1)

-- lines that were made by a call
pub made-told : {V E : Type 0} (items : V → List PlanLine) (r : Result V E) (choices : List Choice) (js ks : List Judged) → js ≡ ks
    → IfOk r (λ v. items v ≡ lines_of choices js) → AreTold ks → IfOk r (λ v. LinesAreTold (items v))
made-told items (Ok v) choices js ks same is told = subst LinesAreTold (sym is) (lines-told js (subst AreTold (sym same) told) choices)
made-told items (Err x) choices js ks same is told = tt
