-- what is unknown is unknown in the rest
use Rattle.std.proofs.Common.{◌≡◌, drop}
use Rattle.sect_model.specs.Refusals.{unknown_in_wants}
use Rattle.sect_refuse.proofs.unknown.unknown_in_wants.Given as goal

abbrev pub invariant-loop-want : goal.invariant-loop-want
invariant-loop-want l = unknown_in_wants l.world.world l.wants ≡ unknown_in_wants l.world.world (drop l.want-index l.wants)
