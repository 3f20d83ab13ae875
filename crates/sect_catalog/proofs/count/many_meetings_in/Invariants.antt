-- the counts so far are within the limit
use Rattle.std.proofs.Common.{◌≡◌, length, map, drop}
use Rattle.sect_catalog.specs.Search.{too_many_of}
use Rattle.sect_catalog.proofs.count.many_meetings_in.Given as goal

abbrev pub invariant-loop-section : goal.invariant-loop-section
invariant-loop-section l = too_many_of 8 (map (λ s. length s.meetings) l.section-items) ≡ too_many_of 8 (map (λ s. length s.meetings) (drop l.section-index l.section-items))
