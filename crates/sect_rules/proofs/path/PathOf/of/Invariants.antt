-- the choices so far are copied
use Rattle.std.proofs.Common.{◌≡◌, take}
use Rattle.sect_moment.specs.Completed.{opened}
use Rattle.sect_rules.proofs.path.PathOf.of.Given as goal

abbrev pub invariant-loop-choice : goal.invariant-loop-choice
invariant-loop-choice g l = l.path ≡ opened (take l.choice-index l.done)
