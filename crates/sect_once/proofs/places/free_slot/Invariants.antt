use Rattle.sect_once.specs.Places.{AreTaken}
use Rattle.sect_once.proofs.places.free_slot.Given as goal

abbrev pub invariant-loop-tries : goal.invariant-loop-tries
invariant-loop-tries l = AreTaken l.slots l.key l.tries
