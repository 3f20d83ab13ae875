-- One leaf more.
use Rattle.sect_base.specs.Tree.{rule_number}
use Rattle.sect_survey.specs.Counted.{count_in}
use Rattle.sect_survey.proofs.CountLemmas.{rule-more}
use Rattle.sect_survey.proofs.tally.count_rules.Goals as goal

pub loop-leaf-preserved : goal.loop-leaf-preserved
loop-leaf-preserved c = λ rule.
    rule-more c.args.leaves.now rule c.loop-leaf.leaf-index _ (count_in c.args.counts.now (rule_number rule)) (count_in c.loop-leaf.counts (rule_number rule))
    (count_in c.add.new.self (rule_number rule)) c.number_of.result c.loop-leaf-test.true (c.loop-leaf.invariant rule) c.number_of.ensures
    (c.in_ok-add.ensures (rule_number rule))
