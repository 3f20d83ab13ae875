-- so many clocks stand in the list
use Rattle.std.proofs.Common.{◌≡◌, length}
use Rattle.desk.proofs.clocks_of.Given as goal

abbrev pub invariant-loop-made : goal.invariant-loop-made
invariant-loop-made l = length l.clocks.items ≡ l.made
