-- the configurations of the course's offering, whose ids differ
use Rattle.std.proofs.Common.{sym, ◌∙◌, ap, subst, []}
use Rattle.std.specs.Prelude.{map, Some, refl}
use Rattle.std.specs.List.{All}
use Rattle.std.specs.Option.{option_map_or}
use Rattle.sect_people.specs.Order.{all_differ}
use Rattle.sect_moment.specs.Found.{IsConfig}
use Rattle.sect_moment.proofs.IdLemmas.{offering-configs}
use Rattle.sect_moment.proofs.GroundLemmas.{its-offering, no-offering}
use Rattle.sect_rules.proofs.FoundLemmas.{configs-found}
use Rattle.sect_rules.proofs.rows.configs.Goals as goal

pub returns-in-Some-clause-value : goal.returns-in-Some-clause-value
returns-in-Some-clause-value c =
    c.as_slice.ensures ∙ (λ i. option_map_or (λ o. o.configs) (sym (its-offering c.args.world.now.world c.args.course (Some c.args.course) c.args.ground c.in-Some.ground refl c.in-Some.is c.requires) i) [])

pub returns-in-Some-clause-differ : goal.returns-in-Some-clause-differ
returns-in-Some-clause-differ c =
    let w = c.args.world.now.world in
    ap (λ gs. all_differ (map (λ g. g.id.0) gs)) c.as_slice.ensures
    ∙ offering-configs w c.recall_kept.ensures.rows_pass c.args.course c.in-Some.ground.offering.now
    (its-offering w c.args.course (Some c.args.course) c.args.ground c.in-Some.ground refl c.in-Some.is c.requires)

pub returns-in-None-clause-value : goal.returns-in-None-clause-value
returns-in-None-clause-value c = λ i. option_map_or (λ o. o.configs) (sym (no-offering c.args.world.now.world c.args.course (Some c.args.course) c.args.ground refl c.in-None.is c.requires) i) []

pub returns-in-Some-clause-found : goal.returns-in-Some-clause-found
returns-in-Some-clause-found c =
    let w = c.args.world.now.world in
    subst (All (IsConfig w (Some c.args.course))) (sym c.as_slice.ensures)
    (configs-found w c.recall_kept.ensures.rows_pass c.args.course c.in-Some.ground.offering.now
    (its-offering w c.args.course (Some c.args.course) c.args.ground c.in-Some.ground refl c.in-Some.is c.requires))
