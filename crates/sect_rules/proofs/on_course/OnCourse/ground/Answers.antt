-- only the roster differs
use Rattle.std.proofs.Common.{sym, subst, Some}
use Rattle.sect_moment.specs.Completed.{opened}
use Rattle.sect_moment.specs.Ground.{IsGroundOf}
use Rattle.sect_rules.specs.Wanted.{met}
use Rattle.sect_rules.proofs.AtLemmas.{ground-at}
use Rattle.sect_rules.proofs.on_course.OnCourse.ground.Goals as goal

pub returns : goal.returns
returns c =
    let s = c.self.inside in
    subst (IsGroundOf (met c.args.self.now.wanted) (Some c.args.self.now.course)) (sym c.as_ref.ensures.value)
    (subst (λ v. IsGroundOf (met v.wanted) (Some v.course) s.ground) c.self.view_is
    (ground-at s.wanted.now.world s.wanted.now.mv (opened s.wanted.now.done) (Some s.course) s.ground c.self.invariant.0))
