-- what is found in the want's world
use Rattle.std.specs.List.{All}
use Rattle.std.proofs.Common.{◌∙◌, sym, subst, Some}
use Rattle.sect_moment.specs.Found.{IsConfig}
use Rattle.sect_moment.specs.Ground.{IsGroundOf}
use Rattle.sect_rules.specs.Wanted.{configs_on}
use Rattle.sect_rules.proofs.on_course.OnCourse.configs.Goals as goal

pub configs-requires : goal.configs-requires
configs-requires c =
    let s = c.self.inside in
    subst (λ w. IsGroundOf w (Some s.course) s.ground) (sym c.world.ensures) c.self.invariant.0

pub returns-clause-value : goal.returns-clause-value
returns-clause-value c =
    c.configs.ensures.value ∙ (λ i. configs_on (c.world.ensures i) c.self.inside.course) ∙ (λ i. configs_on (c.self.view_is i).wanted.world (c.self.view_is i).course)

pub returns-clause-found : goal.returns-clause-found
returns-clause-found c =
    subst (λ v. All (IsConfig v.wanted.world (Some v.course)) c.configs.result.now) c.self.view_is
    (subst (λ w. All (IsConfig w (Some c.self.inside.course)) c.configs.result.now) c.world.ensures c.configs.ensures.found)
