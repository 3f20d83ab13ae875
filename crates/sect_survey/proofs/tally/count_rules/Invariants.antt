-- the leaves so far are counted
use Rattle.std.proofs.Common.{◌≡◌, ◌+◌, length, take}
use Rattle.std.specs.List.{filter}
use Rattle.sect_base.specs.Tree.{rule_number}
use Rattle.sect_base.specs.declared.rule.Rule.{Rule}
use Rattle.sect_survey.specs.Leaves.{breaks}
use Rattle.sect_survey.specs.Counted.{count_in}
use Rattle.sect_survey.proofs.tally.count_rules.Given as goal

abbrev pub invariant-loop-leaf : goal.invariant-loop-leaf
invariant-loop-leaf l =
    (rule : Rule) → count_in l.counts (rule_number rule) ≡ count_in l.initial.counts (rule_number rule) + length (filter (breaks rule) (take l.leaf-index l.leaves))
