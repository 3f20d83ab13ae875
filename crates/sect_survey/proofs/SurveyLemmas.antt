-- The lines and what was counted of them make up the survey.
use Rattle.std.specs.Prelude.{◌≡◌, ℕ, List, filter_map}
use Rattle.std.proofs.Common.{◌∙◌, ap}
use Rattle.sect_base.specs.Tree.{rule_number, all_rules}
use Rattle.sect_base.specs.declared.ids.SectionId.{SectionId}
use Rattle.sect_model.specs.World.{World}
use Rattle.sect_survey.specs.declared.line.Survey.{Survey}
use Rattle.sect_survey.specs.declared.line.SurveyLine.{SurveyLine}
use Rattle.sect_survey.specs.declared.tally.Tally.{Tally}
use Rattle.sect_survey.specs.Sums.{counted, rule_sums, section_sums}
use Rattle.sect_survey.specs.Survey.{survey_lines, sections_by_id, survey_of}
use Rattle.sect_survey.specs.Counted.{count_in, Tallies}

pub survey-is : (w : World) (lines : List SurveyLine) (tally : Tally) (rules : List (ℕ × ℕ)) (sections : List SectionId) (wanted : List (SectionId × ℕ))
    → lines ≡ survey_lines w → Tallies tally lines → rules ≡ filter_map (λ rule. counted (rule_number rule) (count_in tally.leaves (rule_number rule))) all_rules
    → sections ≡ sections_by_id w → wanted ≡ filter_map (λ section. counted section (count_in tally.lines section.0)) sections
    → ◌≡◌ {A = Survey} (record { lines = lines; rules = rules; wanted = wanted }) (survey_of w)
unfolding survey_of
survey-is w lines tally rules sections wanted are tallied counted_rules by_id counted_sections =
    let rules_are : rules ≡ rule_sums (survey_lines w) =
    counted_rules ∙ (λ i. filter_map (λ rule. counted (rule_number rule) (tallied.rules rule i)) all_rules) ∙ ap rule_sums are in
    let wanted_are : wanted ≡ section_sums (sections_by_id w) (survey_lines w) =
    counted_sections ∙ (λ i. filter_map (λ section. counted section (tallied.sections section i)) sections) ∙ (λ i. section_sums (by_id i) (are i)) in
    λ i. record { lines = are i; rules = rules_are i; wanted = wanted_are i }
