-- What a view, a plan or a survey tells of a history.
use Rattle.std.specs.Prelude.{◌≡◌, ℕ, List}
use Rattle.sect_base.specs.declared.ids.StudentId.{StudentId}
use Rattle.sect_best.specs.Plan.{plan_of}
use Rattle.sect_best.specs.Text.{student_plan_text}
use Rattle.sect_command.specs.declared.command.Command.{Command}
use Rattle.sect_command.specs.declared.reply.Reply.{Reply}
use Rattle.sect_command.specs.declared.view.Query.{Query}
use Rattle.sect_command.specs.declared.view.Query.TheVariants.{Rows}
use Rattle.sect_command.specs.declared.view.Table.{Table}
use Rattle.sect_history.specs.Step.{state_of}
use Rattle.sect_model.specs.Look.{look}
use Rattle.sect_once.specs.declared.entry.Entry.{Entry}
use Rattle.sect_report.specs.Answer.{report_text}
use Rattle.sect_csv.specs.Tables.{table_text}
use Rattle.sect_survey.specs.Survey.{survey_of}
use Rattle.sect_survey.specs.Text.{survey_text}

-- the report of a query, of the state after the history
abbrev pub IsReport : Query → List (Entry Command Reply) → List ℕ → Type 0
IsReport query es text = text ≡ report_text query (look (state_of es) query)

-- the rows of a table, of the state after the history
abbrev pub IsExport : Table → List (Entry Command Reply) → List ℕ → Type 0
IsExport table es text = text ≡ table_text table (look (state_of es) (Rows table))

-- the best whole schedule of a student, in the world after the history
abbrev pub IsPlan : StudentId → ℕ → List (Entry Command Reply) → List ℕ → Type 0
IsPlan student budget es text = text ≡ student_plan_text student (plan_of (state_of es).world student budget)

-- the survey of unmet requests, in the world after the history
abbrev pub IsSurvey : List (Entry Command Reply) → List ℕ → Type 0
IsSurvey es text = text ≡ survey_text (survey_of (state_of es).world)
