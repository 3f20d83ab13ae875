-- The sums over the lines of a survey.
use Rattle.std.specs.Prelude.{ℕ, nat_lt, List, [], length, filter, filter_map, flat_map, Option}
use Rattle.std.specs.Bool.{then_some}
use Rattle.sect_base.specs.Tree.{rule_number, all_rules}
use Rattle.sect_base.specs.declared.rule.Rule.{Rule}
use Rattle.sect_base.specs.declared.ids.SectionId.{SectionId}
use Rattle.sect_survey.specs.declared.line.Why.{Why}
use Rattle.sect_survey.specs.declared.line.Why.TheVariants.{Open, Blocked, Spent}
use Rattle.sect_survey.specs.declared.line.SurveyLine.{SurveyLine}
use Rattle.sect_survey.specs.Leaves.{leaves_of, breaks, leaves_want}

-- the leaves of the tree, where the request is blocked
abbrev pub leaves_by : Why → List (Rule × ℕ)
leaves_by (Open choice) = []
leaves_by (Blocked tree visits) = leaves_of tree
leaves_by Spent = []

-- the leaves of a line
abbrev pub leaves_in : SurveyLine → List (Rule × ℕ)
leaves_in l = leaves_by l.why

-- how many leaves of the lines are of the rule
abbrev pub leaves_of_rule : List SurveyLine → Rule → ℕ
leaves_of_rule lines rule = length (filter (breaks rule) (flat_map leaves_in lines))

-- how many lines have a leaf that wants a place in the section
abbrev pub lines_wanting : List SurveyLine → SectionId → ℕ
lines_wanting lines section = length (filter (λ l. leaves_want section (leaves_in l)) lines)

-- a key with its number, where that is above 0
abbrev pub counted : {K : Type 0} → K → ℕ → Option (K × ℕ)
counted key n = then_some (nat_lt 0 n) (key, n)

-- each rule that stands in a leaf, in order, with the number of its leaves
abbrev pub rule_sums : List SurveyLine → List (ℕ × ℕ)
rule_sums lines = filter_map (λ rule. counted (rule_number rule) (leaves_of_rule lines rule)) all_rules

-- each of the sections that is wanted, with the number of lines that want it
abbrev pub section_sums : List SectionId → List SurveyLine → List (SectionId × ℕ)
section_sums sections lines = filter_map (λ section. counted section (lines_wanting lines section)) sections
