-- The reservation's offering is told, where it begins or ends.
use Rattle.std.proofs.Common.{◌∙◌, ap, sym}
use Rattle.std.specs.Prelude.{option_copied}
use Rattle.sect_catalog.specs.Catalogue.{Catalogue, find_offering}
use Rattle.sect_machine.proofs.OpeningLemmas.{flip-marks, unflipped}
use Rattle.sect_machine.proofs.flipping.mark_flip.Goals as goal

pub returns-then-flips : goal.returns-then-flips
returns-then-flips c =
    flip-marks c.args.world.now.world c.args.day c.args.row.now (option_copied c.offering.result) c.args.queue.now.queue.entries c.args.marks.now c.mark.new.marks c.mark.result c.recall_kept.ensures
    (c.offering.ensures ∙ ap (λ (x : Catalogue). find_offering x.rows c.args.row.now.offering) c.catalogue.ensures) c.mark.ensures.more

pub returns-else-flips : goal.returns-else-flips
returns-else-flips c = unflipped c.args.world.now.world c.args.day c.args.row.now c.args.queue.now.queue.entries c.args.marks.now (sym c.flips.ensures ∙ c.if-flips.false)
