-- The reservations that name a level are among those of its offering.
use Rattle.std.proofs.Common.{◌≤◌, ◌&&◌, ◌==◌, ◌∙◌, ap, arith, filter, length, subst, sym}
use Rattle.sect_reserve.specs.Audience.{active}
use Rattle.sect_model.specs.Space.{names}
use Rattle.sect_model.proofs.VisitLemmas.{length-filter-le}
use Rattle.sect_space.proofs.Bounds.{reservations-few}
use Rattle.sect_space.proofs.world.World.reservations_near.Goals as goal

pub returns-in-Some-clause-near : goal.returns-in-Some-clause-near
returns-in-Some-clause-near c =
    c.a_level_is_named_by_its_offering.ensures.own c.args.self.now.world c.recall_kept.ensures c.args.level c.in-Some.offering (sym c.level_offering.ensures ∙ c.in-Some.is)
    ∙ ap (filter (λ r. active r c.args.self.now.world.day && names r c.args.level)) (sym c.reservations.ensures)

pub returns-in-Some-clause-bound : goal.returns-in-Some-clause-bound
returns-in-Some-clause-bound c =
    subst (λ rs. length rs ≤ 1000000) (sym c.reservations.ensures)
    (omega (arith, length-filter-le (λ r. r.offering.0 == c.in-Some.offering.0) c.args.self.now.world.reservations, reservations-few c.args.self.now.world c.recall_kept.ensures))
