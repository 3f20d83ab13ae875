-- The student's entries have the tickets that the index tells, or are among all.
use Rattle.std.proofs.Common.{ap, option_copied, subst}
use Rattle.std.specs.Prelude.{◌==◌, ◌&&◌}
use Rattle.std.specs.List.{list_any}
use Rattle.sect_model.specs.declared.held.Waiting.{Waiting}
use Rattle.sect_wait.specs.Indexed.{AreTold}
use Rattle.sect_wait.specs.Marked.{MarksMore}
use Rattle.sect_wait.proofs.MarkLemmas.{on-ok}
use Rattle.sect_wait.proofs.OnlyLemmas.{own-all, own-told}
use Rattle.sect_wait.proofs.marking.mark_own.Goals as goal

pub returns-in-Some-clause-more : goal.returns-in-Some-clause-more
returns-in-Some-clause-more c =
    let es = c.args.queue.now.queue.entries in
    on-ok c.mark_own_of.result
    (own-told es (λ e. c.args.student.0 == e.student.0) c.in-Some.tickets.now c.args.marks.now c.mark_own_of.new.marks
    (subst (AreTold (λ e. c.args.student.0 == e.student.0) es) (ap option_copied c.in-Some.is) c.of_student.ensures)) c.mark_own_of.ensures.more

pub returns-in-None-clause-more : goal.returns-in-None-clause-more
returns-in-None-clause-more c =
    let es = c.args.queue.now.queue.entries in
    let n = c.mark_own_among.new.marks in
    on-ok c.mark_own_among.result
    (λ marks. own-all es (λ e. c.args.student.0 == e.student.0) c.args.marks.now n
    (subst (λ fs. MarksMore (λ e. list_any (λ (d : Waiting). d.ticket == e.ticket && c.args.student.0 == e.student.0) fs) es c.args.marks.now n) c.entries.ensures marks)) c.mark_own_among.ensures.more
