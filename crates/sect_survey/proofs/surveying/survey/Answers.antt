-- The lines and what was counted of them make up the survey.
use Rattle.std.proofs.Common.{◌∙◌, ap, map, subst, sym}
use Rattle.std.specs.List.{filter_map}
use Rattle.sect_people.specs.Order.{sorted_by}
use Rattle.sect_catalog.specs.Catalogue.{all_sections}
use Rattle.sect_survey.specs.Sums.{counted}
use Rattle.sect_survey.specs.Counted.{count_in, Tallies}
use Rattle.sect_survey.proofs.SurveyLemmas.{survey-is}
use Rattle.sect_survey.proofs.surveying.survey.Goals as goal

pub returns : goal.returns
returns g c =
    let tally = c.in_ok-tally.tally in
    survey-is c.args.world.now.world c.from_vec.result tally c.in_ok-rules.rules c.in_ok-sections.sections.items c.in_ok-wanted.wanted
    (c.from_vec.ensures ∙ c.in_ok-lines.ensures)
    (subst (Tallies tally) (c.as_slice.ensures.value ∙ sym c.from_vec.ensures) c.in_ok-tally.ensures)
    c.in_ok-rules.ensures
    (c.in_ok-sections.ensures ∙ ap (λ rows. map (λ s. s.id) (sorted_by (λ s. s.id.0) (all_sections rows))) (c.rows.ensures ∙ ap (λ k. k.rows) c.catalogue.ensures))
    (c.in_ok-wanted.ensures ∙ ap (filter_map (λ section. counted section (count_in tally.lines section.0))) c.as_slice-2.ensures.value)
