-- the reservations of the course's offering, whose ids differ
use Rattle.std.proofs.Common.{sym, ◌∙◌, ap, subst, []}
use Rattle.std.specs.Prelude.{map, Some, refl, ◌==◌}
use Rattle.std.specs.List.{All}
use Rattle.std.specs.Option.{option_map_or}
use Rattle.sect_people.specs.Order.{all_differ}
use Rattle.sect_model.specs.Allowed.{reservations_of}
use Rattle.sect_moment.specs.Found.{IsReservation}
use Rattle.sect_moment.proofs.NthLemmas.{differ-filter}
use Rattle.sect_moment.proofs.GroundLemmas.{its-offering, its-ground, no-offering}
use Rattle.sect_rules.proofs.FoundLemmas.{reservations-found}
use Rattle.sect_rules.proofs.rows.reservations.Goals as goal

pub returns-in-Some-clause-value : goal.returns-in-Some-clause-value
returns-in-Some-clause-value c =
    let w = c.args.world.now.world in
    (its-ground w c.args.course (Some c.args.course) c.args.ground c.in-Some.ground refl c.in-Some.is c.requires).reservations
    ∙ (λ i. option_map_or (λ o. reservations_of w o.id) (sym (its-offering w c.args.course (Some c.args.course) c.args.ground c.in-Some.ground refl c.in-Some.is c.requires) i) [])

pub returns-in-Some-clause-differ : goal.returns-in-Some-clause-differ
returns-in-Some-clause-differ c =
    let w = c.args.world.now.world in
    ap (λ rs. all_differ (map (λ r. r.id.0) rs)) (its-ground w c.args.course (Some c.args.course) c.args.ground c.in-Some.ground refl c.in-Some.is c.requires).reservations
    ∙ differ-filter (λ r. r.id.0) (λ r. r.offering.0 == c.in-Some.ground.offering.now.id.0) w.reservations c.recall_kept.ensures.reservations_differ

pub returns-in-None-clause-value : goal.returns-in-None-clause-value
returns-in-None-clause-value c =
    let w = c.args.world.now.world in
    λ i. option_map_or (λ o. reservations_of w o.id) (sym (no-offering w c.args.course (Some c.args.course) c.args.ground refl c.in-None.is c.requires) i) []

pub returns-in-Some-clause-found : goal.returns-in-Some-clause-found
returns-in-Some-clause-found c =
    let w = c.args.world.now.world in
    subst (All (IsReservation w)) (sym (its-ground w c.args.course (Some c.args.course) c.args.ground c.in-Some.ground refl c.in-Some.is c.requires).reservations)
    (reservations-found w c.recall_kept.ensures.reservations_differ c.in-Some.ground.offering.now.id)
