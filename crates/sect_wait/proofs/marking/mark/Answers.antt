-- The student's entries are marked, and then those of the offering.
use Rattle.std.specs.Prelude.{option_copied}
use Rattle.sect_wait.proofs.OnlyLemmas.{concerned-only}
use Rattle.sect_wait.proofs.ToldLemmas.{both-marked}
use Rattle.sect_wait.proofs.marking.mark.Goals as goal

pub returns-clause-more : goal.returns-clause-more
returns-clause-more c =
    both-marked c.args.student (option_copied c.args.row) c.args.queue.now.queue.entries c.args.marks.now c.mark_student.new.marks c.mark_row.new.marks c.mark_row.result
    c.in_ok-mark_student.ensures.more c.mark_row.ensures.more

pub returns-clause-only : goal.returns-clause-only
returns-clause-only c =
    concerned-only c.args.student (option_copied c.args.row) c.args.queue.now.queue.entries c.args.marks.now c.mark_student.new.marks c.mark_row.new.marks c.mark_row.result
    c.in_ok-mark_student.ensures.only c.mark_row.ensures.only
