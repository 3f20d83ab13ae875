use Rattle.sect_journal.proofs.Images.{kept_leaves}
use Rattle.sect_journal.proofs.journal.Journal.recall_sound.Goals as goal

pub returns : goal.returns
returns g c =
    rw (← c.self.view_is) (kept_leaves (g.D.Disk.told c.self.inside.disk) c.self.inside.spans.items c.self.inside.gate c.self.inside.torn c.self.invariant.1)
