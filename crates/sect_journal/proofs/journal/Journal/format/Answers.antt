use Rattle.std.proofs.lemmas.Result.{on_ok_weaker}
use Rattle.sect_journal.proofs.Opened.{formatted_leaves}
use Rattle.sect_journal.proofs.journal.Journal.format.Goals as goal

pub returns-clause-rows : goal.returns-clause-rows
returns-clause-rows g c =
    on_ok_weaker c.write_through.result (λ is. formatted_leaves (g.D.Disk.told c.args.disk.now) (g.D.Disk.told c.write_through.new.disk) is) c.write_through.ensures.ok
