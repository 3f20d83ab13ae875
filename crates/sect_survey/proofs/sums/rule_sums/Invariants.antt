-- the sums so far and those of the rules left make up all
use Rattle.std.proofs.Common.{◌≡◌, ◌++◌, ◌-◌}
use Rattle.std.specs.List.{filter_map, range_with_len}
use Rattle.sect_survey.specs.Sums.{counted}
use Rattle.sect_survey.specs.Counted.{count_in}
use Rattle.sect_survey.proofs.sums.rule_sums.Given as goal

abbrev pub invariant-loop-rule : goal.invariant-loop-rule
invariant-loop-rule l =
    l.sums.items ++ filter_map (λ n. counted n (count_in l.leaves n)) (range_with_len l.rule (21 - l.rule))
    ≡ filter_map (λ n. counted n (count_in l.leaves n)) (range_with_len 1 20)
