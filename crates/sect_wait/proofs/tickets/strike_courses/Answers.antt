-- Each turn takes the ticket from one course more.
use Rattle.sect_wait.proofs.IndexLemmas.{others-join}
use Rattle.sect_wait.proofs.tickets.strike_courses.Goals as goal

pub loop-course-preserved : goal.loop-course-preserved
loop-course-preserved c = others-join c.args.ticket c.args.index.now c.loop-course.index c.strike.new.index c.loop-course.invariant c.strike.ensures
