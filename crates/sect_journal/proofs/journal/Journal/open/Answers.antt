use Rattle.std.proofs.Common.{◌-◌, length, vec_capacity}
use Rattle.sect_journal.proofs.Opened.{is_opened}
use Rattle.sect_journal.proofs.journal.Journal.open.Goals as goal

pub returns-in-Ok-clause-opened : goal.returns-in-Ok-clause-opened
returns-in-Ok-clause-opened g c =
    is_opened g.D.Disk.told (g.D.Disk.told c.args.disk) c.scan.new.disk c.in-Ok.spans.items c.in-Ok.gate (vec_capacity c.in-Ok.spans - length c.in-Ok.spans.items) c.in-Ok.ensures.synced c.in-Ok.ensures.end
