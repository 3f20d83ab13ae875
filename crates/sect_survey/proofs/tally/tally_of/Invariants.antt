-- the lines so far are counted
use Rattle.std.proofs.Common.{take}
use Rattle.sect_survey.specs.Counted.{Tallies}
use Rattle.sect_survey.proofs.tally.tally_of.Given as goal

abbrev pub invariant-loop-line : goal.invariant-loop-line
invariant-loop-line l = Tallies l.tally (take l.line-index l.lines)
