-- what is found is found in the rest
use Rattle.std.proofs.Common.{◌≡◌, drop}
use Rattle.std.specs.Prelude.{find}
use Rattle.sect_people.specs.Fault.{courses_of_all, is_unknown}
use Rattle.sect_people.proofs.check.first_unknown.Given as goal

abbrev pub invariant-loop-ask : goal.invariant-loop-ask
invariant-loop-ask l = find (is_unknown l.known) (courses_of_all l.asks) ≡ find (is_unknown l.known) (courses_of_all (drop l.ask-index l.asks))
