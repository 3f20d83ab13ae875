-- the sums of the sections so far
use Rattle.std.proofs.Common.{◌≡◌, take}
use Rattle.std.specs.List.{filter_map}
use Rattle.sect_survey.specs.Sums.{counted}
use Rattle.sect_survey.specs.Counted.{count_in}
use Rattle.sect_survey.proofs.sums.section_sums.Given as goal

abbrev pub invariant-loop-section : goal.invariant-loop-section
invariant-loop-section l = l.sums.items ≡ filter_map (λ s. counted s (count_in l.lines s.0)) (take l.section-index l.sections)
