-- the configurations so far have no bad parent
use Rattle.std.proofs.Common.{◌≡◌, drop}
use Rattle.sect_catalog.specs.Fault.{bad_parent}
use Rattle.sect_catalog.proofs.fault.bad_parent.Given as goal

abbrev pub invariant-loop-config : goal.invariant-loop-config
invariant-loop-config l = bad_parent l.configs ≡ bad_parent (drop l.config-index l.configs)
