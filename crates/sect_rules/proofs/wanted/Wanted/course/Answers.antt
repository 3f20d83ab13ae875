-- the want's courses are the options
use Rattle.std.specs.Prelude.{◌≡◌, map, slice_get}
use Rattle.std.specs.Option.{option_map}
use Rattle.std.proofs.Common.{◌∙◌, ap, subst}
use Rattle.sect_model.specs.declared.pick.Pick.TheVariants.{Course}
use Rattle.sect_model.specs.Path.{options_at}
use Rattle.sect_moment.specs.Completed.{opened}
use Rattle.sect_rules.proofs.DueLemmas.{at-want}
use Rattle.sect_rules.proofs.wanted.Wanted.course.Goals as goal

pub returns : goal.returns
returns c =
    let s = c.self.inside in
    subst (λ v. option_map Course c.course_at.result ≡ slice_get (options_at v.world v.mv (opened v.done)) c.args.i) c.self.view_is
    (c.course_at.ensures ∙ ap (λ courses. slice_get (map Course courses) c.args.i) c.courses.ensures
    ∙ ap (λ xs. slice_get xs c.args.i) (at-want s.world.now.world s.mv.now (opened s.done.now) s.want c.self.invariant.0))
