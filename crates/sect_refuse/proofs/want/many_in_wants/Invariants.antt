-- what is too many is too many in the rest
use Rattle.std.proofs.Common.{◌≡◌, drop}
use Rattle.sect_model.specs.Refusals.{many_in_wants}
use Rattle.sect_refuse.proofs.want.many_in_wants.Given as goal

abbrev pub invariant-loop-want : goal.invariant-loop-want
invariant-loop-want l = many_in_wants l.wants ≡ many_in_wants (drop l.want-index l.wants)
