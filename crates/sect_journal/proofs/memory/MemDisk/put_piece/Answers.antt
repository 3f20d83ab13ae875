use Rattle.std.proofs.Common.{◌≡◌, ◌∙◌, inl, inr, ⊎_elim, sym, ap, subst, refl, length, map}
use Rattle.sect_edge.specs.Memory.{IsNextToFail}
use Rattle.sect_journal.specs.Disk.{put}
use Rattle.sect_journal.specs.Memory.{fresh, told_by, replay, step_of}
use Rattle.sect_journal.proofs.Replays.{cached_tore, cached_wrote}
use Rattle.sect_journal.proofs.memory.MemDisk.put_piece.Goals as goal

pub invariant_of-self-in-Ok : goal.invariant_of-self-in-Ok
invariant_of-self-in-Ok c =
    let piece_is = c.in_ok-copy.ensures.items in
    let size : length c.in_ok-copy.copy.items ≡ length c.args.piece.now = ap length piece_is in
    cached_wrote (fresh c.self.inside.first.items) c.self.inside.first.items c.self.inside.steps.items c.reserve.new.self.items c.push_room-in-Ok.new.list.items c.self.inside.durable c.self.inside.seen c.self.inside.pending.items c.in_ok-reserve.ensures.items c.self.invariant c.args.at (length c.args.piece.now) c.in_ok-copy.copy c.in_ok-next.next c.push_room.new.list.items c.reserve-2.new.self.items c.push_room-in-Ok.ensures c.in_ok-reserve-2.ensures.items c.push_room.ensures size
    (c.in_ok-next.ensures ∙ ap (λ l. put l c.args.at c.args.piece.now) (c.seen.ensures ∙ ap (λ d. (told_by d).now.seen) (sym c.self.view_is)) ∙ ap (λ l. put (replay (fresh c.self.inside.first.items) (map step_of c.self.inside.steps.items)).now.seen c.args.at l) (sym piece_is))

pub invariant_of-self-in-Err-1 : goal.invariant_of-self-in-Err-1
invariant_of-self-in-Err-1 c =
    cached_tore (fresh c.self.inside.first.items) c.self.inside.first.items c.self.inside.steps.items c.reserve.new.self.items c.push_room-in-Err.new.list.items c.self.inside.durable c.self.inside.seen c.self.inside.pending.items c.in_ok-reserve.ensures.items c.self.invariant c.args.at (length c.args.piece.now) c.push_room.new.list.items c.reserve-2.new.self.items c.push_room-in-Err.ensures c.in_ok-reserve-2.ensures.items c.push_room.ensures

pub returns-in-Err-clause-fails : goal.returns-in-Err-clause-fails
returns-in-Err-clause-fails c =
    λ _. ⊎_elim (λ far. inl (c.passes_bound.ensures.0 far)) (λ next. inr (subst (λ d. IsNextToFail d.calls) c.self.view_is next)) (c.in-Err.ensures.fails.0 refl)
