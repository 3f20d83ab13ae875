use Rattle.std.proofs.Common.{ap, Some, length}
use Rattle.std.proofs.lemmas.Result.{on_ok_weaker}
use Rattle.sect_edge.specs.Memory.{after_success, after_fault}
use Rattle.sect_journal.specs.Memory.{Wrote, Tore, told_by}
use Rattle.sect_journal.proofs.Replays.{told_after, torn_none}
use Rattle.sect_journal.proofs.memory.MemDiskDisk.write_at.Goals as goal

pub returns-clause-ok : goal.returns-clause-ok
returns-clause-ok c =
    on_ok_weaker c.put_piece.result (λ is. ap (λ t. Some t) (told_after c.args.self.now c.put_piece.new.self (Wrote c.args.at c.args.piece.now) (after_success c.args.self.now.calls) is)) c.put_piece.ensures.ok

pub returns-clause-failed : goal.returns-clause-failed
returns-clause-failed c =
    λ e. ((told_by c.args.self.now).now.seen, torn_none c.args.at (length c.args.piece.now) (told_by c.args.self.now).now.seen, ap (λ t. Some t) (told_after c.args.self.now c.put_piece.new.self (Tore c.args.at (length c.args.piece.now)) (after_fault c.args.self.now.calls) (c.put_piece.ensures.failed e)))
