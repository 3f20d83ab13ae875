-- One part more.
use Rattle.std.proofs.Common.{length, map}
use Rattle.sect_catalog.specs.Catalogue.{sections_in}
use Rattle.sect_catalog.specs.Search.{too_many_of}
use Rattle.sect_catalog.proofs.CountLemmas.{counts-parts}
use Rattle.sect_catalog.proofs.SearchLemmas.{found_by, passed_by}
use Rattle.sect_catalog.proofs.count.many_meetings_of.Goals as goal

pub returns-in-Some : goal.returns-in-Some
returns-in-Some c =
    found_by (λ ps. too_many_of 8 (map (λ s. length s.meetings) (sections_in ps))) (λ p. too_many_of 8 (map (λ s. length s.meetings) p.sections)) (counts-parts 8 (λ s. length s.meetings) (λ p. p.sections))
    (too_many_of 8 (map (λ s. length s.meetings) (sections_in c.args.subparts.now))) c.many_meetings_in.result c.args.subparts.now c.loop-subpart.subpart-index c.subpart-item.result c.in-Some.fault
    c.loop-subpart-test.true c.subpart-item.is c.loop-subpart.invariant (c.many_meetings_in.ensures) c.in-Some.is

pub loop-subpart-preserved : goal.loop-subpart-preserved
loop-subpart-preserved c =
    passed_by (λ ps. too_many_of 8 (map (λ s. length s.meetings) (sections_in ps))) (λ p. too_many_of 8 (map (λ s. length s.meetings) p.sections)) (counts-parts 8 (λ s. length s.meetings) (λ p. p.sections))
    (too_many_of 8 (map (λ s. length s.meetings) (sections_in c.args.subparts.now))) c.many_meetings_in.result c.args.subparts.now c.loop-subpart.subpart-index c.subpart-item.result
    c.loop-subpart-test.true c.subpart-item.is c.loop-subpart.invariant (c.many_meetings_in.ensures) c.in_default.not-Some
