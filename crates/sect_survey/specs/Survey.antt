-- The survey of unmet requests: what a search says of each, which rules stand in their way, and which sections are wanted.
use Rattle.std.specs.Prelude.{false, List, [], ◌∷◌, map, flat_map}
use Rattle.sect_base.specs.declared.ids.CourseId.{CourseId}
use Rattle.sect_base.specs.declared.ids.SectionId.{SectionId}
use Rattle.sect_people.specs.Order.{sorted_by}
use Rattle.sect_catalog.specs.Catalogue.{all_sections}
use Rattle.sect_command.specs.declared.view.UnmetView.{UnmetView}
use Rattle.sect_model.specs.Data.{Move, CourseAsk}
use Rattle.sect_model.specs.declared.pick.Outcome.{Outcome}
use Rattle.sect_model.specs.declared.pick.Outcome.TheVariants.{Found, Blocked as blocked, Spent as spent}
use Rattle.sect_model.specs.World.{World}
use Rattle.sect_model.specs.Batch.{request_move}
use Rattle.sect_model.specs.Look.{unmet_views, students_by_id}
use Rattle.sect_model.specs.Outcome.{outcome_of}
use Rattle.sect_survey.specs.declared.line.Why.{Why}
use Rattle.sect_survey.specs.declared.line.Why.TheVariants.{Open, Blocked, Spent}
use Rattle.sect_survey.specs.declared.line.SurveyLine.{SurveyLine}
use Rattle.sect_survey.specs.declared.line.Survey.{Survey}
use Rattle.sect_survey.specs.Sums.{rule_sums, section_sums}

-- a request for the courses, without marks: a search looks at none
abbrev pub unmarked : List CourseId → CourseAsk
unmarked courses = record { courses = courses; wait = false; substitute = false }

-- the move that takes an unmet request
abbrev pub unmet_move : UnmetView → Move
unmet_move u = request_move u.student (unmarked u.courses) u.rank

-- why the request is unmet, by the outcome of its search; where one is found, it has a choice
abbrev pub why_of : Outcome → Why
why_of (Found [] visits) = Spent
why_of (Found (choice ∷ choices) visits) = Open choice
why_of (blocked tree visits) = Blocked tree visits
why_of (spent budget) = Spent

-- the line of an unmet request: what a search within 2,000 visits says of it
abbrev pub line_of : World → UnmetView → SurveyLine
line_of w u = record { student = u.student; rank = u.rank; why = why_of (outcome_of w (unmet_move u) 2000) }

-- the lines of all unmet requests, by student and position
unfoldable pub survey_lines : World → List SurveyLine
survey_lines w = map (line_of w) (flat_map (unmet_views w) (students_by_id w))

-- the sections of the catalogue, by id
abbrev pub sections_by_id : World → List SectionId
sections_by_id w = map (λ s. s.id) (sorted_by (λ s. s.id.0) (all_sections w.catalogue.rows))

-- the lines, and the sums over them
unfoldable pub survey_of : World → Survey
survey_of w = record {
  lines = survey_lines w;
  rules = rule_sums (survey_lines w);
  wanted = section_sums (sections_by_id w) (survey_lines w);
}
