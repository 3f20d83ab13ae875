-- the subparts so far have sections
use Rattle.std.proofs.Common.{◌≡◌, flat_map, drop}
use Rattle.sect_catalog.specs.Search.{bare_subpart}
use Rattle.sect_catalog.proofs.fault.bare_subpart.Given as goal

abbrev pub invariant-loop-config : goal.invariant-loop-config
invariant-loop-config l = bare_subpart (flat_map (λ g. g.subparts) l.configs) ≡ bare_subpart (flat_map (λ g. g.subparts) (drop l.config-index l.configs))
