-- the subparts so far have no bad parent
use Rattle.std.proofs.Common.{◌≡◌, [], take, drop}
use Rattle.sect_catalog.specs.Catalogue.{sections_in}
use Rattle.sect_catalog.specs.Fault.{bad_parent_after}
use Rattle.sect_catalog.proofs.fault.bad_parent_in.Given as goal

abbrev pub invariant-loop-number : goal.invariant-loop-number
invariant-loop-number l = bad_parent_after [] l.subparts ≡ bad_parent_after (sections_in (take l.number l.subparts)) (drop l.number l.subparts)
