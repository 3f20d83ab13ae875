-- the counts so far are within the limit
use Rattle.std.proofs.Common.{◌≡◌, length, map, drop}
use Rattle.sect_catalog.specs.Search.{too_many_of}
use Rattle.sect_catalog.proofs.count.many_sections_of.Given as goal

abbrev pub invariant-loop-subpart : goal.invariant-loop-subpart
invariant-loop-subpart l = too_many_of 200 (map (λ p. length p.sections) l.subparts) ≡ too_many_of 200 (map (λ p. length p.sections) (drop l.subpart-index l.subparts))
