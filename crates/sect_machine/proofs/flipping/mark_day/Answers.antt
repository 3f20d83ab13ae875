-- On the way to a later day those reservations are told that begin or end; another day changes nothing.
use Rattle.std.proofs.Common.{◌∙◌, ap, sym}
use Rattle.std.specs.Prelude.{nat_lt}
use Rattle.sect_catalog.specs.Catalogue.{Catalogue}
use Rattle.sect_machine.proofs.OpeningLemmas.{later-day, same-day}
use Rattle.sect_machine.proofs.flipping.mark_day.Goals as goal

pub returns-then-is_later : goal.returns-then-is_later
returns-then-is_later c =
    let w = c.args.world.now.world in
    later-day w c.args.day c.rows.result.now c.args.queue.now.queue.entries c.args.marks.now c.mark_offerings.new.marks c.mark_offerings.result c.recall_kept.ensures
    (ap (λ d. nat_lt d c.args.day) (sym c.day.ensures) ∙ sym c.is_later.ensures ∙ c.if-is_later.true) (c.rows.ensures ∙ ap (λ (x : Catalogue). x.rows) c.catalogue.ensures) c.mark_offerings.ensures

pub returns-else-is_later : goal.returns-else-is_later
returns-else-is_later c =
    let w = c.args.world.now.world in
    same-day w c.args.day c.args.queue.now.queue.entries c.args.marks.now (ap (λ d. nat_lt d c.args.day) (sym c.day.ensures) ∙ sym c.is_later.ensures ∙ c.if-is_later.false)
