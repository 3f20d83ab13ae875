-- That the trees of a plan have a text.
use Rattle.std.specs.Prelude.{List, [], ◌∷◌}
use Rattle.sect_command.specs.TreeText.{HasText}
use Rattle.sect_best.specs.declared.line.PlanLine.{PlanLine}
use Rattle.sect_best.specs.declared.line.PlanResult.{PlanResult}
use Rattle.sect_best.specs.declared.line.PlanResult.TheVariants.{Met, Unmet as unmet_line, Spent as spent_line}
use Rattle.sect_best.specs.declared.planned.Judged.{Judged}
use Rattle.sect_best.specs.declared.planned.Verdict.{Verdict}
use Rattle.sect_best.specs.declared.planned.Verdict.TheVariants.{Kept, Unmet, Spent}

-- where the request is unmet, its tree has a text with at most 180 brackets round a leaf
abbrev pub VerdictIsTold : Verdict → Type 0
VerdictIsTold Kept = Unit {0}
VerdictIsTold (Unmet tree visits) = HasText 180 tree
VerdictIsTold Spent = Unit {0}

-- the same of each verdict
abbrev pub AreTold : List Judged → Type 0
AreTold [] = Unit {0}
AreTold (j ∷ js) = VerdictIsTold j.verdict × AreTold js

-- where the result is unmet, its tree has a text with at most 180 brackets round a leaf
abbrev pub ResultIsTold : PlanResult → Type 0
ResultIsTold (Met choice) = Unit {0}
ResultIsTold (unmet_line tree visits) = HasText 180 tree
ResultIsTold spent_line = Unit {0}

-- the same of each line
abbrev pub LinesAreTold : List PlanLine → Type 0
LinesAreTold [] = Unit {0}
LinesAreTold (l ∷ ls) = ResultIsTold l.result × LinesAreTold ls
