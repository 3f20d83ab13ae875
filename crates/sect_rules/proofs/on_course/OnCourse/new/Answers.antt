-- what is found in the want's world
use Rattle.std.specs.List.{All}
use Rattle.std.proofs.Common.{◌∙◌, ap, sym, subst, Some}
use Rattle.sect_moment.specs.Found.{IsReservation}
use Rattle.sect_moment.specs.Ground.{IsGroundOf}
use Rattle.sect_rules.specs.Wanted.{reservations_on}
use Rattle.sect_rules.proofs.on_course.OnCourse.new.Goals as goal

pub invariant_of-result : goal.invariant_of-result
invariant_of-result c =
    let e = c.world-world.ensures in (
      subst (λ w. IsGroundOf w (Some c.args.course) c.ground_of-ground.result) e c.ground_of-ground.ensures,
      c.new-rows.ensures ∙ c.reservations.ensures.value ∙ ap (λ w. reservations_on w c.args.course) e,
      subst (λ w. All (IsReservation w) c.new-rows.result) e (subst (All (IsReservation c.world-world.result.now.world)) (sym c.new-rows.ensures) c.reservations.ensures.found),
    )
