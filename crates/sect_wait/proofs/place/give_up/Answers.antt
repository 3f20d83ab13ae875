-- The course that the candidate gives up leaves.
use Rattle.sect_wait.proofs.MarkLemmas.{on-ok}
use Rattle.sect_wait.proofs.TouchedLemmas.{give-seek}
use Rattle.std.proofs.Common.{sym}
use Rattle.sect_wait.proofs.place.give_up.Goals as goal

pub returns-in-Some-clause-only : goal.returns-in-Some-clause-only
returns-in-Some-clause-only c =
    on-ok c.leave.result
    (give-seek c.args.world.now.world c.args.candidate.now.student c.in-Some.course c.args.candidate.now.give c.args.queue.now.queue.entries c.args.marks.now c.leave.new.marks c.args.opened.now.courses.items
    c.leave.new.opened.courses.items (sym c.in-Some.is)) c.leave.ensures.only
