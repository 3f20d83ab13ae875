-- The configurations so far haven't the section.
use Rattle.std.proofs.Common.{◌≡◌, drop}
use Rattle.sect_machine.specs.Placed.{subparts_of}
use Rattle.sect_machine.proofs.PlaceLemmas.{id_in, subparts_in}
use Rattle.sect_machine.proofs.place.subpart_in.Given as goal

abbrev pub invariant-loop-config : goal.invariant-loop-config
invariant-loop-config l = id_in l.section (subparts_in (drop l.config-index l.config-items)) ≡ id_in l.section (subparts_of l.row)
