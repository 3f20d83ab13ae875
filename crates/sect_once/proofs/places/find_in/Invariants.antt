use Rattle.sect_once.specs.Places.{AreOthers}
use Rattle.sect_once.proofs.places.find_in.Given as goal

abbrev pub invariant-loop-tries : goal.invariant-loop-tries
invariant-loop-tries l = AreOthers l.keys l.slots l.key l.tries
