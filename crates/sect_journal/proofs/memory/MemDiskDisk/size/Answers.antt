use Rattle.sect_edge.specs.Memory.{after_success, after_fault}
use Rattle.sect_journal.proofs.Replays.{look_same}
use Rattle.sect_journal.proofs.memory.MemDiskDisk.size.Goals as goal

pub returns-in_err-look-clause-same : goal.returns-in_err-look-clause-same
returns-in_err-look-clause-same c =
    look_same c.look.result c.args.self.now c.look.new.self (after_success c.args.self.now.calls) (after_fault c.args.self.now.calls) c.look.ensures.ok c.look.ensures.failed c.look.ensures.memory

pub returns-clause-same : goal.returns-clause-same
returns-clause-same c =
    look_same c.look.result c.args.self.now c.look.new.self (after_success c.args.self.now.calls) (after_fault c.args.self.now.calls) c.look.ensures.ok c.look.ensures.failed c.look.ensures.memory
