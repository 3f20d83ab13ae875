-- the rules on a course, in the world at the choices
use Rattle.std.specs.Prelude.{◌≡◌, []}
use Rattle.std.specs.Option.{option_map_or}
use Rattle.std.proofs.Common.{◌∙◌, ap, subst}
use Rattle.sect_model.specs.declared.pick.Pick.TheVariants.{Course}
use Rattle.sect_model.specs.World.{offering_of}
use Rattle.sect_model.specs.Rules.{leaf_of, first_broken, course_rules}
use Rattle.sect_moment.specs.Completed.{opened}
use Rattle.sect_rules.proofs.DueLemmas.{leaf-want}
use Rattle.sect_rules.proofs.wanted.Wanted.broken.Goals as goal

pub returns : goal.returns
returns c =
    let s = c.self.inside in
    subst (λ v. c.course_rule.result ≡ leaf_of v.world v.mv (opened v.done) (Course c.args.course)) c.self.view_is
    (c.course_rule.ensures
    ∙ ap (λ m. first_broken (option_map_or (λ o. course_rules m.at m.student o c.args.course) (offering_of m.at c.args.course) [])) c.self.invariant.1
    ∙ leaf-want s.world.now.world s.mv.now (opened s.done.now) (Course c.args.course) s.want c.self.invariant.0)
