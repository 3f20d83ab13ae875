-- Each turn marks what leaving one course more opens.
use Rattle.sect_model.specs.declared.held.Waiting.{Waiting}
use Rattle.sect_model.specs.declared.change.Change.TheVariants.{Leave}
use Rattle.sect_model.specs.Data.{CourseId}
use Rattle.sect_model.specs.Freer.{may_open}
use Rattle.sect_wait.proofs.ToldLemmas.{each-marked}
use Rattle.sect_machine.proofs.opened.mark_given.Goals as goal

pub loop-course-preserved : goal.loop-course-preserved
loop-course-preserved c =
    each-marked (λ (d : CourseId) (e : Waiting). may_open c.args.world.now.world e (Leave c.args.student d)) c.args.courses.now c.loop-course.course-index _ c.args.queue.now.queue.entries
    c.args.marks.now c.loop-course.marks c.mark_leaving.new.marks c.loop-course-test.true c.loop-course.invariant c.in_ok-mark_leaving.ensures.more
