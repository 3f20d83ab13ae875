use Rattle.sect_journal.specs.Memory.{fresh}
use Rattle.sect_journal.proofs.Replays.{cached_looked}
use Rattle.sect_journal.proofs.memory.MemDisk.look.Goals as goal

pub invariant_of-self-in_err-result : goal.invariant_of-self-in_err-result
invariant_of-self-in_err-result c = cached_looked (fresh c.self.inside.first.items) c.self.inside.first.items c.self.inside.steps.items c.reserve.new.self.items c.push.new.self.items c.self.inside.durable c.self.inside.seen c.self.inside.pending.items c.in_ok-reserve.ensures.items c.self.invariant c.in-Ok.ensures.items

pub invariant_of-self-2 : goal.invariant_of-self-2
invariant_of-self-2 c = cached_looked (fresh c.self.inside.first.items) c.self.inside.first.items c.self.inside.steps.items c.reserve.new.self.items c.push.new.self.items c.self.inside.durable c.self.inside.seen c.self.inside.pending.items c.in_ok-reserve.ensures.items c.self.invariant c.in-Ok.ensures.items
