-- What the index has of the course is told.
use Rattle.std.proofs.Common.{option_copied}
use Rattle.sect_wait.proofs.IndexLemmas.{told-course}
use Rattle.sect_wait.proofs.queue.Queue.of_course.Goals as goal

pub returns : goal.returns
returns c =
    rw (← c.self.view_is) (told-course c.self.inside.index c.self.inside.entries.items c.self.invariant.index c.args.course (option_copied c.of_course.result) c.of_course.ensures)
