use Rattle.std.proofs.Common.{◌∙◌, sym, ap, subst, refl}
use Rattle.sect_edge.specs.Memory.{IsNextToFail}
use Rattle.sect_journal.specs.Memory.{fresh, told_by}
use Rattle.sect_journal.proofs.Replays.{cached_looked, cached_synced, not_refused}
use Rattle.sect_journal.proofs.memory.MemDisk.make_durable.Goals as goal

pub invariant_of-self-in-Ok : goal.invariant_of-self-in-Ok
invariant_of-self-in-Ok c =
    cached_synced (fresh c.self.inside.first.items) c.self.inside.first.items c.self.inside.steps.items c.reserve.new.self.items c.push_room.new.list.items c.self.inside.durable c.self.inside.seen c.self.inside.pending.items c.in_ok-reserve.ensures.items c.self.invariant c.in_ok-copy.copy c.clear.new.self.items c.push_room.ensures c.clear.ensures.items
    (c.in_ok-copy.ensures.items ∙ c.seen.ensures ∙ ap (λ d. (told_by d).now.seen) (sym c.self.view_is))

pub invariant_of-self-in-Err-1 : goal.invariant_of-self-in-Err-1
invariant_of-self-in-Err-1 c =
    cached_looked (fresh c.self.inside.first.items) c.self.inside.first.items c.self.inside.steps.items c.reserve.new.self.items c.push_room-in-Err.new.list.items c.self.inside.durable c.self.inside.seen c.self.inside.pending.items c.in_ok-reserve.ensures.items c.self.invariant c.push_room-in-Err.ensures

pub returns-in-Err-clause-fails : goal.returns-in-Err-clause-fails
returns-in-Err-clause-fails c =
    λ _. subst (λ d. IsNextToFail d.calls) c.self.view_is (not_refused (c.in-Err.ensures.fails.0 refl))
