-- the number of the sections so far
use Rattle.std.proofs.Common.{◌≡◌, ◌-◌, ◌^◌, min, length, flat_map, take}
use Rattle.sect_catalog.specs.Catalogue.{sections_in}
use Rattle.sect_catalog.proofs.count.sections.Given as goal

abbrev pub invariant-loop-config : goal.invariant-loop-config
invariant-loop-config l = l.count ≡ min (length (sections_in (flat_map (λ g. g.subparts) (take l.config-index l.configs)))) (2 ^ 64 - 1)
