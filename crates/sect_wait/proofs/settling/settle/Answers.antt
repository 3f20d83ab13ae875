-- Nothing opened but what is marked.
use Rattle.std.proofs.Common.{IfOk, ◌+◌, ◌*◌, ◌≤◌, length, subst}
use Rattle.sect_wait.specs.Touched.{count_touched}
use Rattle.sect_wait.proofs.OpenedLemmas.{all-but}
use Rattle.sect_wait.proofs.settling.settle.Goals as goal

pub settle_opened-requires-clause-others : goal.settle_opened-requires-clause-others
settle_opened-requires-clause-others g c = all-but c.args.world.now.world c.args.queue.now.queue.entries c.args.marks.now c.none-opened.result c.requires.others

pub returns-clause-steps : goal.returns-clause-steps
returns-clause-steps g c =
    subst (λ cs. IfOk c.settle_opened.result (λ placed. c.settle_opened.new.steps ≤ c.args.steps.now + (length placed + 1) * count_touched c.args.world.now.world c.args.queue.now.queue.entries c.args.marks.now cs placed))
    c.none-opened.ensures.courses c.settle_opened.ensures.steps
