-- One section more.
use Rattle.std.proofs.Common.{◌++◌, ◌∙◌, ap, get_or}
use Rattle.std.specs.Option.{option_to_list}
use Rattle.sect_survey.specs.Sums.{counted}
use Rattle.sect_survey.specs.Counted.{count_in}
use Rattle.sect_survey.proofs.CountLemmas.{key-more}
use Rattle.sect_survey.proofs.sums.section_sums.Goals as goal

pub loop-section-preserved : goal.loop-section-preserved
loop-section-preserved c =
    key-more (λ s. counted s (count_in c.args.lines.now s.0)) c.args.sections.now c.loop-section.section-index (record { 0 = 0 }) c.loop-section.sums.items c.add_counted.new.sums.items
    c.loop-section-test.true c.loop-section.invariant
    (c.in_ok-add_counted.ensures
    ∙ ap (λ n. c.loop-section.sums.items ++ option_to_list (counted (get_or c.args.sections.now c.loop-section.section-index (record { 0 = 0 })) n)) c.get.ensures)
