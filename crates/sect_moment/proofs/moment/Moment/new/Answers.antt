-- only the roster differs
use Rattle.std.proofs.Common.{sym, ◌∙◌}
use Rattle.sect_moment.specs.Completed.{opened}
use Rattle.sect_moment.specs.Moment.{moved}
use Rattle.sect_moment.proofs.MomentLemmas.{world-moved}
use Rattle.sect_moment.proofs.moment.Moment.new.Goals as goal

pub returns : goal.returns
returns c =
    let w = c.args.world.now.world in
    let mv = c.args.mv.now in
    λ i. record { at = ((λ j. moved w (c.student-student.ensures j) (c.give.ensures j) c.args.done.now) ∙ sym (world-moved w mv (opened c.args.done.now))) i; student = c.student-student.ensures i }
