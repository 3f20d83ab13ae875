-- what is unknown is unknown in the rest
use Rattle.std.proofs.Common.{◌≡◌, drop}
use Rattle.sect_model.specs.Refusals.{unknown_students}
use Rattle.sect_refuse.proofs.unknown.unknown_students.Given as goal

abbrev pub invariant-loop-id : goal.invariant-loop-id
invariant-loop-id l = unknown_students l.world.world l.ids ≡ unknown_students l.world.world (drop l.id-index l.ids)
