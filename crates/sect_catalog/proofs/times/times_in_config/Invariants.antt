-- the count of the ids so far
use Rattle.std.proofs.Common.{◌≡◌, ◌∷◌, take}
use Rattle.std.specs.Prelude.{flat_map}
use Rattle.sect_catalog.specs.Fault.{subpart_ids}
use Rattle.sect_catalog.specs.Search.{times_in}
use Rattle.sect_catalog.proofs.times.times_in_config.Given as goal

abbrev pub invariant-loop-subpart : goal.invariant-loop-subpart
invariant-loop-subpart l = l.times ≡ times_in ((2, l.config.id.0) ∷ flat_map subpart_ids (take l.subpart-index l.subpart-items)) l.id
