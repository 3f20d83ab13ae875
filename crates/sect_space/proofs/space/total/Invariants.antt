-- the sum of the limits so far
use Rattle.std.proofs.Common.{◌≡◌, ◌≤◌, ◌*◌, Some, take}
use Rattle.sect_catalog.specs.Catalogue.{places_of_all}
use Rattle.sect_space.proofs.space.total.Given as goal

abbrev pub invariant-loop-config : goal.invariant-loop-config
invariant-loop-config l = (places_of_all (take l.config-index l.configs) ≡ Some l.sum) × (l.sum ≤ l.config-index * 4294967295)
