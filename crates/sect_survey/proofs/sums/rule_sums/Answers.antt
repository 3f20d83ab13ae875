-- One rule more.
use Rattle.std.proofs.Common.{◌+◌, ◌++◌, ◌∙◌, ap, refl}
use Rattle.std.specs.Option.{option_to_list}
use Rattle.sect_survey.specs.Sums.{counted}
use Rattle.sect_survey.specs.Counted.{count_in}
use Rattle.sect_survey.proofs.CountLemmas.{number-more}
use Rattle.sect_survey.proofs.sums.rule_sums.Goals as goal

pub loop-rule-preserved : goal.loop-rule-preserved
loop-rule-preserved c =
    number-more (λ n. counted n (count_in c.args.leaves.now n)) c.loop-rule.rule (c.loop-rule.rule + 1) 21 c.loop-rule.sums.items c.add_counted.new.sums.items _
    c.loop-rule-test.true refl c.loop-rule.invariant
    (c.in_ok-add_counted.ensures ∙ ap (λ n. c.loop-rule.sums.items ++ option_to_list (counted c.loop-rule.rule n)) (c.get.ensures ∙ ap (count_in c.args.leaves.now) c.from.ensures))
