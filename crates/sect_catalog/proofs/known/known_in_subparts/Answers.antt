-- One part more.
use Rattle.std.proofs.Common.{flat_map}
use Rattle.sect_catalog.specs.Fault.{subpart_ids}
use Rattle.sect_catalog.specs.Place.{is_taken}
use Rattle.sect_catalog.proofs.KnownLemmas.{first_id, first-parts}
use Rattle.sect_catalog.proofs.SearchLemmas.{found_by, passed_by}
use Rattle.sect_catalog.proofs.known.known_in_subparts.Goals as goal

pub returns-in-Some : goal.returns-in-Some
returns-in-Some c =
    found_by (λ xs. first_id (is_taken c.args.index.now c.args.row.now) (flat_map subpart_ids xs)) (λ x. first_id (is_taken c.args.index.now c.args.row.now) (subpart_ids x)) (first-parts (is_taken c.args.index.now c.args.row.now) subpart_ids)
    (first_id (is_taken c.args.index.now c.args.row.now) (flat_map subpart_ids c.args.subparts.now)) c.known_in_subpart.result c.args.subparts.now c.loop-subpart.subpart-index c.subpart-item.result c.in-Some.id
    c.loop-subpart-test.true c.subpart-item.is c.loop-subpart.invariant c.known_in_subpart.ensures c.in-Some.is

pub loop-subpart-preserved : goal.loop-subpart-preserved
loop-subpart-preserved c =
    passed_by (λ xs. first_id (is_taken c.args.index.now c.args.row.now) (flat_map subpart_ids xs)) (λ x. first_id (is_taken c.args.index.now c.args.row.now) (subpart_ids x)) (first-parts (is_taken c.args.index.now c.args.row.now) subpart_ids)
    (first_id (is_taken c.args.index.now c.args.row.now) (flat_map subpart_ids c.args.subparts.now)) c.known_in_subpart.result c.args.subparts.now c.loop-subpart.subpart-index c.subpart-item.result
    c.loop-subpart-test.true c.subpart-item.is c.loop-subpart.invariant c.known_in_subpart.ensures c.in_default.not-Some
