-- One part more.
use Rattle.std.proofs.Common.{◌∙◌, ap, flat_map, length, map}
use Rattle.sect_catalog.specs.Catalogue.{sections_in}
use Rattle.sect_catalog.specs.Search.{too_many_of}
use Rattle.sect_catalog.proofs.CountLemmas.{meetings-parts}
use Rattle.sect_catalog.proofs.SearchLemmas.{found_by, passed_by}
use Rattle.sect_catalog.proofs.count.many_meetings.Goals as goal

pub returns-in-Some : goal.returns-in-Some
returns-in-Some c =
    found_by (λ gs. too_many_of 8 (map (λ s. length s.meetings) (sections_in (flat_map (λ g. g.subparts) gs)))) (λ g. too_many_of 8 (map (λ s. length s.meetings) (sections_in g.subparts))) meetings-parts
    (too_many_of 8 (map (λ s. length s.meetings) (sections_in (flat_map (λ g. g.subparts) c.args.configs.now)))) c.many_meetings_of.result c.args.configs.now c.loop-config.config-index c.config-item.result c.in-Some.fault
    c.loop-config-test.true c.config-item.is c.loop-config.invariant (c.many_meetings_of.ensures ∙ ap (λ ps. too_many_of 8 (map (λ s. length s.meetings) (sections_in ps))) c.as_slice.ensures) c.in-Some.is

pub loop-config-preserved : goal.loop-config-preserved
loop-config-preserved c =
    passed_by (λ gs. too_many_of 8 (map (λ s. length s.meetings) (sections_in (flat_map (λ g. g.subparts) gs)))) (λ g. too_many_of 8 (map (λ s. length s.meetings) (sections_in g.subparts))) meetings-parts
    (too_many_of 8 (map (λ s. length s.meetings) (sections_in (flat_map (λ g. g.subparts) c.args.configs.now)))) c.many_meetings_of.result c.args.configs.now c.loop-config.config-index c.config-item.result
    c.loop-config-test.true c.config-item.is c.loop-config.invariant (c.many_meetings_of.ensures ∙ ap (λ ps. too_many_of 8 (map (λ s. length s.meetings) (sections_in ps))) c.as_slice.ensures) c.in_default.not-Some
