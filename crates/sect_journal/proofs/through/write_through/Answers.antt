use Rattle.std.proofs.Common.{inr}
use Rattle.std.proofs.lemmas.Result.{on_err_weaker}
use Rattle.sect_journal.proofs.Writes.{unsynced_tears}
use Rattle.sect_journal.proofs.through.write_through.Goals as goal

pub returns-clause-err : goal.returns-clause-err
returns-clause-err g c =
    on_err_weaker c.sync.result (λ same. inr (unsynced_tears (g.D.Disk.told c.args.disk.now) (g.D.Disk.told c.write_at.new.self) (g.D.Disk.told c.sync.new.self) c.args.at c.args.piece.now c.requires c.in_ok-write_at.ensures.ok same)) c.sync.ensures.err
