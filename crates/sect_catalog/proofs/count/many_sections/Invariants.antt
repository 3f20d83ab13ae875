-- the counts so far are within the limit
use Rattle.std.proofs.Common.{◌≡◌, length, map, flat_map, drop}
use Rattle.sect_catalog.specs.Search.{too_many_of}
use Rattle.sect_catalog.proofs.count.many_sections.Given as goal

abbrev pub invariant-loop-config : goal.invariant-loop-config
invariant-loop-config l = too_many_of 200 (map (λ p. length p.sections) (flat_map (λ g. g.subparts) l.configs)) ≡ too_many_of 200 (map (λ p. length p.sections) (flat_map (λ g. g.subparts) (drop l.config-index l.configs)))
