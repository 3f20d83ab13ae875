-- The places of the sections that are left are still to come.
use Rattle.std.proofs.Common.{drop}
use Rattle.sect_machine.proofs.PlaceLemmas.{PlacesOn}
use Rattle.sect_machine.proofs.place.places.Given as goal

abbrev pub invariant-loop-section : goal.invariant-loop-section
invariant-loop-section l = PlacesOn l.world.world l.offering l.sections l.places.items (drop l.section-index l.sections)
