-- The text of a plan.
use Rattle.std.specs.Prelude.{ℕ, List, [], ◌∷◌, Option, None, Some, codes, decimal}
use Rattle.sect_base.specs.declared.ids.StudentId.{StudentId}
use Rattle.sect_command.specs.TreeText.{tree_text}
use Rattle.sect_report.specs.Line.{line_text}
use Rattle.sect_report.specs.Report.{listed_text, unknown_text}
use Rattle.sect_words.specs.Words.{choice_text}
use Rattle.sect_best.specs.declared.line.PlanLine.{PlanLine}
use Rattle.sect_best.specs.declared.line.PlanResult.{PlanResult}
use Rattle.sect_best.specs.declared.line.PlanResult.TheVariants.{Met, Unmet, Spent}

-- what becomes of a request: `met CHOICE`, `unmet VISITS TREE` or `spent`
abbrev pub plan_result_words : PlanResult → List (List ℕ)
plan_result_words (Met choice) = codes "met" ∷ choice_text choice ∷ []
plan_result_words (Unmet tree visits) = codes "unmet" ∷ decimal visits ∷ tree_text tree ∷ []
plan_result_words Spent = codes "spent" ∷ []

-- `rank P RESULT`
abbrev pub plan_line_text : PlanLine → List ℕ
plan_line_text l = line_text (codes "rank" ∷ decimal l.rank ∷ plan_result_words l.result)

-- the lines, or `none` where there is none
abbrev pub plan_text : List PlanLine → List ℕ
plan_text lines = listed_text plan_line_text lines

-- the text of a student's plan, or that the student is unknown
abbrev pub student_plan_text : StudentId → Option (List PlanLine) → List ℕ
student_plan_text student None = unknown_text (codes "student") student.0
student_plan_text student (Some lines) = plan_text lines
