-- The ticket has one entry, or none.
use Rattle.std.specs.Prelude.{option_copied}
use Rattle.std.specs.List.{list_any}
use Rattle.std.proofs.Common.{◌∙◌, ap, sym}
use Rattle.sect_catalog.specs.Catalogue.{has_course}
use Rattle.sect_model.specs.declared.held.Waiting.{Waiting}
use Rattle.sect_wait.proofs.NoteLemmas.{no-entry, the-entry}
use Rattle.sect_wait.proofs.marking.is_wanting.Goals as goal

pub returns-in-Some : goal.returns-in-Some
returns-in-Some c = λ e a same.
    let q = c.args.queue.now.queue in
    c.wants.ensures
    ∙ ap (λ (x : Waiting). list_any (has_course c.args.row.now) x.want.courses)
    (the-entry q.entries q.next c.args.ticket c.in-Some.entry.now e c.recall_kept.ensures.kept.in_order (sym (ap option_copied c.in-Some.is) ∙ c.entry.ensures) a same)

pub returns-in-None : goal.returns-in-None
returns-in-None c = λ e a same. no-entry c.args.queue.now.queue.entries c.args.ticket e (sym (ap option_copied c.in-None.is) ∙ c.entry.ensures) a same
