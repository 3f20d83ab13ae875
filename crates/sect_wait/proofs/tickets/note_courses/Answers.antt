-- Each turn notes the ticket by one course more.
use Rattle.sect_wait.proofs.IndexLemmas.{courses-more, keeps-joins}
use Rattle.sect_wait.proofs.tickets.note_courses.Goals as goal

pub loop-course-preserved : goal.loop-course-preserved
loop-course-preserved c = (
  keeps-joins c.args.index.now c.loop-course.index c.note.new.index c.loop-course.invariant.0 c.note.ensures.kept,
  courses-more c.loop-course.index c.note.new.index c.args.ticket c.args.courses.now c.loop-course.course-index _ c.loop-course-test.true
      c.note.ensures.kept c.loop-course.invariant.1 c.in_ok-note.ensures.noted,
)
