-- The entry of the ticket is tried, or no entry has it.
use Rattle.std.proofs.Common.{◌∙◌, ◌==◌, ap, sym, option_copied}
use Rattle.sect_model.specs.declared.held.Waiting.{Waiting}
use Rattle.sect_model.specs.Kept.{entry_fits}
use Rattle.sect_model.proofs.Members.{all-at, find-member}
use Rattle.sect_wait.proofs.CountLemmas.{once-behind}
use Rattle.sect_wait.proofs.TriedLemmas.{each-one, tried-unknown}
use Rattle.sect_wait.proofs.next.better_by.Goals as goal

pub better_once-requires-clause-found : goal.better_once-requires-clause-found
better_once-requires-clause-found g c = sym (ap option_copied c.in-Some.is) ∙ c.entry.ensures

pub better_once-requires-clause-ahead : goal.better_once-requires-clause-ahead
better_once-requires-clause-ahead g c = sym c.is_behind.ensures ∙ c.if-is_behind.false

pub better_once-requires-clause-fits : goal.better_once-requires-clause-fits
better_once-requires-clause-fits g c =
    let es = c.args.queue.now.queue.entries in
    let e = c.in-Some.entry.now in
    all-at (entry_fits c.args.world.now.world) es c.requires.fit e (find-member (λ (e : Waiting). e.ticket == c.args.ticket) es e (sym (sym (ap option_copied c.in-Some.is) ∙ c.entry.ensures))).0

pub better_once-requires-clause-others : goal.better_once-requires-clause-others
better_once-requires-clause-others g c =
    let es = c.args.queue.now.queue.entries in
    let e = c.in-Some.entry.now in
    each-one es e (find-member (λ (e : Waiting). e.ticket == c.args.ticket) es e (sym (sym (ap option_copied c.in-Some.is) ∙ c.entry.ensures))).0 c.requires.others

pub returns-then-is_behind-clause-tried : goal.returns-then-is_behind-clause-tried
returns-then-is_behind-clause-tried g c = λ before on t.
    let q = c.args.queue.now.queue in
    once-behind c.args.world.now.world q.entries c.args.ticket c.args.marks.now.spent c.args.best.now c.args.left.now c.args.tried.now before on t q.next c.in-Some.entry.now c.recall_kept.ensures.kept.in_order
    (sym (ap option_copied c.in-Some.is) ∙ c.entry.ensures) (sym c.if-is_behind.true ∙ c.is_behind.ensures)

pub returns-in-None-clause-tried : goal.returns-in-None-clause-tried
returns-in-None-clause-tried g c = λ before on.
    let q = c.args.queue.now.queue in
    tried-unknown c.args.world.now.world q.entries c.args.ticket c.args.marks.now.spent c.args.best.now c.args.left.now (sym (ap option_copied c.in-None.is) ∙ c.entry.ensures) before
