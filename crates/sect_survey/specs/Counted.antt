-- How often numbers were counted.
use Rattle.std.specs.Prelude.{◌≡◌, ℕ, nat_eq, unwrap_or, List}
use Rattle.std.specs.HashMap.{get}
use Rattle.sect_base.specs.Tree.{rule_number}
use Rattle.sect_base.specs.declared.rule.Rule.{Rule}
use Rattle.sect_base.specs.declared.ids.SectionId.{SectionId}
use Rattle.sect_survey.specs.declared.counts.Counts.{Counts}
use Rattle.sect_survey.specs.declared.tally.Tally.{Tally}
use Rattle.sect_survey.specs.declared.line.SurveyLine.{SurveyLine}
use Rattle.sect_survey.specs.Sums.{leaves_of_rule, lines_wanting}

-- how often a number was counted
abbrev pub count_in : Counts → ℕ → ℕ
count_in c n = unwrap_or (get nat_eq c.counts n) 0

-- the leaves of each rule, and the lines that want a place in each section, are counted
pub record Tallies (t : Tally) (lines : List SurveyLine) : Type 0 where
  pub rules : (rule : Rule) → count_in t.leaves (rule_number rule) ≡ leaves_of_rule lines rule
  pub sections : (section : SectionId) → count_in t.lines section.0 ≡ lines_wanting lines section
