-- One configuration more.
use Rattle.std.proofs.Common.{◌∙◌, ap, refl, []}
use Rattle.sect_catalog.specs.Fault.{bad_parent, bad_parent_after}
use Rattle.sect_catalog.proofs.SearchLemmas.{found_by, passed_by}
use Rattle.sect_catalog.proofs.fault.bad_parent.Goals as goal

pub returns-in-Some : goal.returns-in-Some
returns-in-Some c =
    found_by bad_parent (λ g. bad_parent_after [] g.subparts) (λ x xs. refl)
    (bad_parent c.args.configs.now) c.bad_parent_in.result c.args.configs.now c.loop-config.config-index c.config-item.result c.in-Some.id
    c.loop-config-test.true c.config-item.is c.loop-config.invariant (c.bad_parent_in.ensures ∙ ap (bad_parent_after []) c.as_slice.ensures) c.in-Some.is

pub loop-config-preserved : goal.loop-config-preserved
loop-config-preserved c =
    passed_by bad_parent (λ g. bad_parent_after [] g.subparts) (λ x xs. refl)
    (bad_parent c.args.configs.now) c.bad_parent_in.result c.args.configs.now c.loop-config.config-index c.config-item.result
    c.loop-config-test.true c.config-item.is c.loop-config.invariant (c.bad_parent_in.ensures ∙ ap (bad_parent_after []) c.as_slice.ensures) c.in_default.not-Some
