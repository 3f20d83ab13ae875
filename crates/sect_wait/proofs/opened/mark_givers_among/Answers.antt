-- Where nobody gives a course up, nobody is marked.
use Rattle.std.proofs.Common.{◌∙◌, sym}
use Rattle.sect_wait.proofs.MarkLemmas.{on-ok}
use Rattle.sect_wait.proofs.OpenedLemmas.{no-givers}
use Rattle.sect_wait.proofs.opened.mark_givers_among.Goals as goal

pub returns-then-gives_some-clause-more : goal.returns-then-gives_some-clause-more
returns-then-gives_some-clause-more c = on-ok c.mark_givers.result (λ each. each c.args.queue.now.queue.entries) c.mark_givers.ensures.more

pub returns-then-gives_some-clause-only : goal.returns-then-gives_some-clause-only
returns-then-gives_some-clause-only c = on-ok c.mark_givers.result (λ each. each c.args.queue.now.queue.entries) c.mark_givers.ensures.only

pub returns-else-gives_some-clause-more : goal.returns-else-gives_some-clause-more
returns-else-gives_some-clause-more c = no-givers c.args.queue.now.queue.entries c.args.courses.now c.args.marks.now (sym c.gives_some.ensures ∙ c.if-gives_some.false)
