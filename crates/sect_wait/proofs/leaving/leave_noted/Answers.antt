-- What opened is noted, and the student's entries are marked, and those that are noted as spent and want the offering.
use Rattle.std.proofs.Common.{sym, subst}
use Rattle.sect_wait.specs.Marked.{MarksMore, is_noted_in}
use Rattle.sect_wait.specs.Opened.{OthersBut}
use Rattle.sect_wait.proofs.OpenedLemmas.{noted-all}
use Rattle.std.specs.Prelude.{option_copied}
use Rattle.sect_wait.proofs.OnlyLemmas.{left-seek}
use Rattle.sect_wait.proofs.leaving.leave_noted.Goals as goal

pub returns-clause-others : goal.returns-clause-others
returns-clause-others c =
    let w = c.args.world.now.world in
    let es = c.args.queue.now.queue.entries in
    subst (λ v. OthersBut v es c.mark_noted.new.marks c.in_ok-opened.opened) (sym c.in_ok-make.ensures.ok)
    (noted-all w c.recall_kept.ensures c.args.student c.args.course es c.args.marks.now c.mark_student.new.marks c.mark_noted.new.marks c.in_ok-opened.opened c.in_ok-opened.ensures c.requires.held c.requires.fit
    c.requires.others c.in_ok-mark_student.ensures.more
    (subst (λ o. MarksMore (is_noted_in c.mark_student.new.marks.spent o) es c.mark_student.new.marks c.mark_noted.new.marks) c.offering_of.ensures c.in_ok-mark_noted.ensures.more))

pub returns-clause-only : goal.returns-clause-only
returns-clause-only c =
    left-seek c.args.world.now.world c.recall_kept.ensures c.args.student c.args.course c.args.queue.now.queue.entries c.args.marks.now c.mark_student.new.marks c.mark_noted.new.marks c.in_ok-opened.opened
    (option_copied c.offering_of.result) c.in_ok-opened.ensures c.offering_of.ensures c.in_ok-mark_student.ensures.only c.in_ok-mark_noted.ensures.only
