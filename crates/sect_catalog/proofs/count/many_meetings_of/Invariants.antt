-- the counts so far are within the limit
use Rattle.std.proofs.Common.{◌≡◌, length, map, drop}
use Rattle.sect_catalog.specs.Catalogue.{sections_in}
use Rattle.sect_catalog.specs.Search.{too_many_of}
use Rattle.sect_catalog.proofs.count.many_meetings_of.Given as goal

abbrev pub invariant-loop-subpart : goal.invariant-loop-subpart
invariant-loop-subpart l = too_many_of 8 (map (λ s. length s.meetings) (sections_in l.subparts)) ≡ too_many_of 8 (map (λ s. length s.meetings) (sections_in (drop l.subpart-index l.subparts)))
