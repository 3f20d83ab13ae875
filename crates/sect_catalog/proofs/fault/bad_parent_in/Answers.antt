-- One subpart more.
use Rattle.std.proofs.Common.{◌∙◌, [], sym}
use Rattle.sect_catalog.specs.Fault.{bad_parent_after}
use Rattle.sect_catalog.proofs.SearchLemmas.{none_left, parent_found, parent_passed}
use Rattle.sect_catalog.proofs.fault.bad_parent_in.Goals as goal

pub returns-in-Some : goal.returns-in-Some
returns-in-Some c =
    sym (parent_found (bad_parent_after [] c.args.subparts.now) c.args.subparts.now c.loop-number.number c.index-subparts-number.result c.in-Some.id
    c.loop-number-test.true c.index-subparts-number.is c.loop-number.invariant (sym c.in-Some.ensures))

pub loop-number-preserved : goal.loop-number-preserved
loop-number-preserved c =
    parent_passed (bad_parent_after [] c.args.subparts.now) c.args.subparts.now c.loop-number.number c.index-subparts-number.result
    c.loop-number-test.true c.index-subparts-number.is c.loop-number.invariant (sym c.first_orphan.ensures ∙ none_left c.first_orphan.result c.in_default.not-Some)
