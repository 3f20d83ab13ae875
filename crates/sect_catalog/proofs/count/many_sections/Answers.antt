-- One part more.
use Rattle.std.proofs.Common.{◌∙◌, ap, flat_map, length, map}
use Rattle.sect_catalog.specs.Search.{too_many_of}
use Rattle.sect_catalog.proofs.CountLemmas.{counts-parts}
use Rattle.sect_catalog.proofs.SearchLemmas.{found_by, passed_by}
use Rattle.sect_catalog.proofs.count.many_sections.Goals as goal

pub returns-in-Some : goal.returns-in-Some
returns-in-Some c =
    found_by (λ gs. too_many_of 200 (map (λ p. length p.sections) (flat_map (λ g. g.subparts) gs))) (λ g. too_many_of 200 (map (λ p. length p.sections) g.subparts)) (counts-parts 200 (λ p. length p.sections) (λ g. g.subparts))
    (too_many_of 200 (map (λ p. length p.sections) (flat_map (λ g. g.subparts) c.args.configs.now))) c.many_sections_of.result c.args.configs.now c.loop-config.config-index c.config-item.result c.in-Some.fault
    c.loop-config-test.true c.config-item.is c.loop-config.invariant (c.many_sections_of.ensures ∙ ap (λ ps. too_many_of 200 (map (λ p. length p.sections) ps)) c.as_slice.ensures) c.in-Some.is

pub loop-config-preserved : goal.loop-config-preserved
loop-config-preserved c =
    passed_by (λ gs. too_many_of 200 (map (λ p. length p.sections) (flat_map (λ g. g.subparts) gs))) (λ g. too_many_of 200 (map (λ p. length p.sections) g.subparts)) (counts-parts 200 (λ p. length p.sections) (λ g. g.subparts))
    (too_many_of 200 (map (λ p. length p.sections) (flat_map (λ g. g.subparts) c.args.configs.now))) c.many_sections_of.result c.args.configs.now c.loop-config.config-index c.config-item.result
    c.loop-config-test.true c.config-item.is c.loop-config.invariant (c.many_sections_of.ensures ∙ ap (λ ps. too_many_of 200 (map (λ p. length p.sections) ps)) c.as_slice.ensures) c.in_default.not-Some
