-- the ids so far rise, and the floors are those behind them
use Rattle.std.proofs.Common.{◌≡◌, drop}
use Rattle.std.specs.Prelude.{map}
use Rattle.sect_catalog.specs.Fault.{subpart_ids}
use Rattle.sect_catalog.specs.Apart.{past_all}
use Rattle.sect_catalog.proofs.apart.past_subpart.Given as goal

abbrev pub invariant-loop-section : goal.invariant-loop-section
invariant-loop-section l = past_all l.fn.floors (subpart_ids l.subpart) ≡ past_all l.floors (map (λ s. (4, s.id.0)) (drop l.section-index l.section-items))
