-- the counts so far are within the limit
use Rattle.std.proofs.Common.{◌≡◌, length, map, flat_map, drop}
use Rattle.sect_catalog.specs.Catalogue.{sections_in}
use Rattle.sect_catalog.specs.Search.{too_many_of}
use Rattle.sect_catalog.proofs.count.many_meetings.Given as goal

abbrev pub invariant-loop-config : goal.invariant-loop-config
invariant-loop-config l = too_many_of 8 (map (λ s. length s.meetings) (sections_in (flat_map (λ g. g.subparts) l.configs))) ≡ too_many_of 8 (map (λ s. length s.meetings) (sections_in (flat_map (λ g. g.subparts) (drop l.config-index l.configs))))
