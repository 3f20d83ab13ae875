-- one subpart more
use Rattle.std.proofs.Common.{◌∙◌}
use Rattle.sect_catalog.specs.Fault.{subpart_ids, config_ids}
use Rattle.sect_catalog.specs.Apart.{past_all}
use Rattle.std.specs.Prelude.{flat_map}
use Rattle.sect_catalog.proofs.ApartLemmas.{risen, stopped, past-parts}
use Rattle.sect_catalog.proofs.apart.past_config.Goals as goal

pub returns-in_err-floors-2 : goal.returns-in_err-floors-2
returns-in_err-floors-2 c =
    c.from_residual-in_err-floors-2.ensures
    ∙ stopped (λ f ps. past_all f (flat_map subpart_ids ps)) (λ f p. past_all f (subpart_ids p)) (past-parts subpart_ids)
    (past_all c.args.floors (config_ids c.args.config.now)) c.past_subpart.result c.loop-subpart.floors c.as_slice-subpart-items.result.now c.loop-subpart.subpart-index c.subpart-item.result
    c.loop-subpart-test.true c.subpart-item.is c.loop-subpart.invariant c.past_subpart.ensures c.in_err-floors-2.was

pub loop-subpart-preserved : goal.loop-subpart-preserved
loop-subpart-preserved c =
    risen (λ f ps. past_all f (flat_map subpart_ids ps)) (λ f p. past_all f (subpart_ids p)) (past-parts subpart_ids)
    (past_all c.args.floors (config_ids c.args.config.now)) c.past_subpart.result c.loop-subpart.floors _ c.as_slice-subpart-items.result.now c.loop-subpart.subpart-index c.subpart-item.result
    c.loop-subpart-test.true c.subpart-item.is c.loop-subpart.invariant c.past_subpart.ensures c.in_ok-floors-2.was
