-- The text of a survey.
use Rattle.std.specs.Prelude.{ℕ, List, [], ◌∷◌, ◌++◌, codes, decimal}
use Rattle.std.specs.List.{flat_map}
use Rattle.sect_base.specs.declared.ids.SectionId.{SectionId}
use Rattle.sect_command.specs.TreeText.{tree_text}
use Rattle.sect_words.specs.Words.{choice_text}
use Rattle.sect_report.specs.Line.{line_text}
use Rattle.sect_report.specs.Report.{listed_text}
use Rattle.sect_survey.specs.declared.line.Why.{Why}
use Rattle.sect_survey.specs.declared.line.Why.TheVariants.{Open, Blocked, Spent}
use Rattle.sect_survey.specs.declared.line.SurveyLine.{SurveyLine}
use Rattle.sect_survey.specs.declared.line.Survey.{Survey}

-- why a request is unmet: `open CHOICE`, `blocked VISITS TREE` or `spent`
abbrev pub why_words : Why → List (List ℕ)
why_words (Open choice) = codes "open" ∷ choice_text choice ∷ []
why_words (Blocked tree visits) = codes "blocked" ∷ decimal visits ∷ tree_text tree ∷ []
why_words Spent = codes "spent" ∷ []

-- `student ID rank P WHY`
abbrev pub survey_line_text : SurveyLine → List ℕ
survey_line_text l = line_text (codes "student" ∷ decimal l.student.0 ∷ codes "rank" ∷ decimal l.rank ∷ why_words l.why)

-- `rule K leaves N`
abbrev pub rule_text : ℕ × ℕ → List ℕ
rule_text sum = line_text (codes "rule" ∷ decimal sum.0 ∷ codes "leaves" ∷ decimal sum.1 ∷ [])

-- `section S wanted N`
abbrev pub wanted_text : SectionId × ℕ → List ℕ
wanted_text sum = line_text (codes "section" ∷ decimal sum.0.0 ∷ codes "wanted" ∷ decimal sum.1 ∷ [])

-- the lines, or `none` where there is none, and the sums behind them
abbrev pub survey_text : Survey → List ℕ
survey_text s = listed_text survey_line_text s.lines ++ (flat_map rule_text s.rules ++ flat_map wanted_text s.wanted)
