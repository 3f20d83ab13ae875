use Rattle.std.proofs.Common.{ap, Some}
use Rattle.std.proofs.lemmas.Result.{on_ok_weaker}
use Rattle.sect_edge.specs.Memory.{after_success, after_fault}
use Rattle.sect_journal.specs.Memory.{Looked, Synced, told_by}
use Rattle.sect_journal.proofs.Replays.{told_after, err_either}
use Rattle.sect_journal.proofs.memory.MemDiskDisk.sync.Goals as goal

pub returns-clause-ok : goal.returns-clause-ok
returns-clause-ok c =
    on_ok_weaker c.make_durable.result (λ is. ap (λ t. Some t) (told_after c.args.self.now c.make_durable.new.self Synced (after_success c.args.self.now.calls) is)) c.make_durable.ensures.ok

pub returns-clause-err : goal.returns-clause-err
returns-clause-err c =
    err_either c.make_durable.result (λ e. ap (λ t. Some t) (told_after c.args.self.now c.make_durable.new.self Looked (after_fault c.args.self.now.calls) (c.make_durable.ensures.failed e))) (λ e. ap (λ d. Some (told_by d)) (c.make_durable.ensures.memory e))
