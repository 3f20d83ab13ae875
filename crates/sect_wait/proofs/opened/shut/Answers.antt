-- Once all is closed again, who gives nothing up has no move.
use Rattle.std.proofs.Common.{◌∙◌, sym, subst}
use Rattle.sect_wait.specs.Marked.{MarksMore}
use Rattle.sect_wait.specs.Opened.{gives_and_wants}
use Rattle.sect_wait.specs.Touched.{MarksOnly}
use Rattle.sect_wait.proofs.OnlyLemmas.{shut-seek}
use Rattle.sect_wait.proofs.OpenedLemmas.{shut-but}
use Rattle.sect_wait.proofs.opened.shut.Goals as goal

pub returns-clause-others : goal.returns-clause-others
returns-clause-others c = λ but.
    let w = c.args.world.now.world in
    let es = c.args.queue.now.queue.entries in
    let n = c.mark_givers_among.new.marks in
    shut-but w es c.args.marks.now n c.args.opened.now _ c.recall_kept.ensures (sym c.is_closed_again.ensures ∙ c.if-not-is_closed_again.false)
    (subst (λ cs. MarksMore (gives_and_wants cs) es c.args.marks.now n) c.as_slice.ensures.value c.in_ok-mark_givers_among.ensures.more) but

pub returns-clause-only : goal.returns-clause-only
returns-clause-only c =
    let es = c.args.queue.now.queue.entries in
    let n = c.mark_givers_among.new.marks in
    shut-seek es c.args.marks.now n c.args.opened.now.courses.items c.clear.new.self.items c.clear.ensures.items
    (subst (λ cs. MarksOnly (gives_and_wants cs) es c.args.marks.now n) c.as_slice.ensures.value c.in_ok-mark_givers_among.ensures.only)
