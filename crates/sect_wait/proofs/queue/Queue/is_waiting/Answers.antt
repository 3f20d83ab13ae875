-- The ticket has one entry at most, so that it tells whose it is.
use Rattle.std.proofs.Common.{◌∙◌, Some, None, ap, sym, option_copied}
use Rattle.sect_wait.proofs.SharedLemmas.{own-ticket}
use Rattle.sect_wait.proofs.queue.Queue.is_waiting.Goals as goal

pub returns-in-Some : goal.returns-in-Some
returns-in-Some c =
    let q = c.args.self.now.queue in
    c.eq.ensures ∙ own-ticket q.entries c.args.student c.args.ticket q.next c.recall_kept.ensures.kept.in_order (Some c.in-Some.entry.now) (sym c.entry.ensures ∙ ap option_copied c.in-Some.is)

pub returns-in-None : goal.returns-in-None
returns-in-None c =
    let q = c.args.self.now.queue in
    own-ticket q.entries c.args.student c.args.ticket q.next c.recall_kept.ensures.kept.in_order None (sym c.entry.ensures ∙ ap option_copied c.in-None.is)
