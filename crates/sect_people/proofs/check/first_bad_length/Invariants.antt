-- the first is the first of the rest
use Rattle.std.proofs.Common.{◌≡◌, drop}
use Rattle.sect_people.specs.Fault.{first_bad_length}
use Rattle.sect_people.proofs.check.first_bad_length.Given as goal

abbrev pub invariant-loop-ask : goal.invariant-loop-ask
invariant-loop-ask l = first_bad_length l.asks ≡ first_bad_length (drop l.ask-index l.asks)
