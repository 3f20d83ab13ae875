-- The entry is tried, where its ticket wasn't.
use Rattle.std.specs.Option.{option_or}
use Rattle.std.proofs.Common.{◌∙◌, ◌==◌, sym}
use Rattle.sect_model.specs.declared.held.Waiting.{Waiting}
use Rattle.sect_model.proofs.Members.{find-member}
use Rattle.sect_wait.proofs.CountLemmas.{again-of, once-tried, puts-only, tried-counted}
use Rattle.sect_wait.proofs.TriedLemmas.{tried-more}
use Rattle.sect_wait.proofs.next.better_once.Goals as goal

pub returns-then-contains-clause-tried : goal.returns-then-contains-clause-tried
returns-then-contains-clause-tried g c = λ before on t.
    once-tried c.args.world.now.world c.args.queue.now.queue.entries c.args.ticket c.args.marks.now.spent c.args.best.now c.args.left.now c.args.tried.now before on t (sym c.contains.ensures ∙ c.if-contains.true)

pub returns-clause-tried : goal.returns-clause-tried
returns-clause-tried g c = λ before on t.
    let q = c.args.queue.now.queue in
    tried-more c.args.world.now.world q.entries c.args.ticket c.args.marks.now.spent q.next c.args.entry.now c.args.best.now (option_or c.in_ok-new.new c.args.best.now) c.args.left.now c.better.new.left
    c.recall_kept.ensures.kept.in_order c.requires.found c.in_ok-new.ensures.best c.in_ok-new.ensures.others before t

pub returns-clause-puts : goal.returns-clause-puts
returns-clause-puts g c = puts-only c.args.marks.now c.args.opened.now c.args.queue.now.queue.entries c.args.ticket c.args.tried.now c.insert.new.self c.in_ok-insert.ensures.updates.0

pub returns-clause-again : goal.returns-clause-again
returns-clause-again g c =
    let es = c.args.queue.now.queue.entries in
    let e = c.args.entry.now in
    again-of c.args.marks.now c.args.opened.now es e c.args.left.now.again.items c.better.new.left.again.items (find-member (λ (e : Waiting). e.ticket == c.args.ticket) es e (sym c.requires.found)).0 c.in_ok-new.ensures.again

pub returns-clause-steps : goal.returns-clause-steps
returns-clause-steps g c =
    tried-counted c.args.marks.now c.args.opened.now c.args.queue.now.queue.entries c.args.ticket c.args.tried.now c.insert.new.self c.in_ok-insert.ensures.updates.0 c.args.entry.now c.args.steps.now c.better.new.steps
    c.requires.found (sym c.contains.ensures ∙ c.if-contains.false) c.better.ensures.steps
