-- the count of the ids so far
use Rattle.std.proofs.Common.{◌≡◌, ◌∷◌, take}
use Rattle.std.specs.Prelude.{map}
use Rattle.sect_catalog.specs.Search.{times_in}
use Rattle.sect_catalog.proofs.times.times_in_subpart.Given as goal

abbrev pub invariant-loop-section : goal.invariant-loop-section
invariant-loop-section l = l.times ≡ times_in ((3, l.subpart.id.0) ∷ map (λ s. (4, s.id.0)) (take l.section-index l.section-items)) l.id
