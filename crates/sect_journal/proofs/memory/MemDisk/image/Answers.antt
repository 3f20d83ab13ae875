use Rattle.std.proofs.Common.{◌%◌, ◌∙◌, sym, ap, subst}
use Rattle.sect_journal.specs.Disk.{IsImage}
use Rattle.sect_journal.specs.Memory.{told_by, marked}
use Rattle.sect_journal.specs.Law.{told_image}
use Rattle.sect_journal.proofs.Picks.{durable_image, marked_image}
use Rattle.sect_journal.proofs.memory.MemDisk.image.Goals as goal

pub returns-in_ok-from_slice-in-0-clause-image : goal.returns-in_ok-from_slice-in-0-clause-image
returns-in_ok-from_slice-in-0-clause-image c =
    subst (λ l. IsImage (told_by c.args.self.now).now l) (sym (c.in_ok-from_slice-in-0.ensures.items ∙ c.durable.ensures)) (durable_image c.args.self.now)

pub returns-in_ok-from_slice-in-1-clause-image : goal.returns-in_ok-from_slice-in-1-clause-image
returns-in_ok-from_slice-in-1-clause-image c =
    subst (λ l. IsImage (told_by c.args.self.now).now l) (sym (c.in_ok-from_slice-in-1.ensures.items ∙ c.seen.ensures)) (told_image c.args.self.now)

pub returns-in_ok-mark-in_default-clause-image : goal.returns-in_ok-mark-in_default-clause-image
returns-in_ok-mark-in_default-clause-image c =
    subst (λ l. IsImage (told_by c.args.self.now).now l)
    (sym (c.in_ok-mark-in_default.ensures ∙ ap (λ r. marked r (c.args.pick % 256) 0 c.seen-in_default.result.now) c.pending.ensures ∙ ap (λ l. marked (told_by c.args.self.now).now.pending (c.args.pick % 256) 0 l) c.seen-in_default.ensures))
    (marked_image c.args.self.now (c.args.pick % 256))
