-- One configuration more.
use Rattle.std.proofs.Common.{◌∙◌, ap, flat_map}
use Rattle.sect_catalog.specs.Search.{bare_subpart}
use Rattle.sect_catalog.proofs.SearchLemmas.{bare-parts, found_by, passed_by}
use Rattle.sect_catalog.proofs.fault.bare_subpart.Goals as goal

pub returns-in-Some : goal.returns-in-Some
returns-in-Some c =
    found_by (λ gs. bare_subpart (flat_map (λ g. g.subparts) gs)) (λ g. bare_subpart g.subparts) bare-parts
    (bare_subpart (flat_map (λ g. g.subparts) c.args.configs.now)) c.bare_subpart_of.result c.args.configs.now c.loop-config.config-index c.config-item.result c.in-Some.fault
    c.loop-config-test.true c.config-item.is c.loop-config.invariant (c.bare_subpart_of.ensures ∙ ap bare_subpart c.as_slice.ensures) c.in-Some.is

pub loop-config-preserved : goal.loop-config-preserved
loop-config-preserved c =
    passed_by (λ gs. bare_subpart (flat_map (λ g. g.subparts) gs)) (λ g. bare_subpart g.subparts) bare-parts
    (bare_subpart (flat_map (λ g. g.subparts) c.args.configs.now)) c.bare_subpart_of.result c.args.configs.now c.loop-config.config-index c.config-item.result
    c.loop-config-test.true c.config-item.is c.loop-config.invariant (c.bare_subpart_of.ensures ∙ ap bare_subpart c.as_slice.ensures) c.in_default.not-Some
