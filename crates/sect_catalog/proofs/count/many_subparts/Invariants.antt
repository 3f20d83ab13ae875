-- the counts so far are within the limit
use Rattle.std.proofs.Common.{◌≡◌, length, map, drop}
use Rattle.sect_catalog.specs.Search.{too_many_of}
use Rattle.sect_catalog.proofs.count.many_subparts.Given as goal

abbrev pub invariant-loop-config : goal.invariant-loop-config
invariant-loop-config l = too_many_of 6 (map (λ g. length g.subparts) l.configs) ≡ too_many_of 6 (map (λ g. length g.subparts) (drop l.config-index l.configs))
