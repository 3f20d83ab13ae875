-- the number of the sections so far
use Rattle.std.proofs.Common.{◌≡◌, ◌-◌, ◌^◌, min, length, take}
use Rattle.sect_catalog.specs.Catalogue.{sections_in}
use Rattle.sect_catalog.proofs.count.sections_of.Given as goal

abbrev pub invariant-loop-subpart : goal.invariant-loop-subpart
invariant-loop-subpart l = l.count ≡ min (length (sections_in (take l.subpart-index l.subparts))) (2 ^ 64 - 1)
