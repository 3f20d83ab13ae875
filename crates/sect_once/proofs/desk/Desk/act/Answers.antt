use Rattle.std.proofs.Common.{Err, ap, sym, ◌∙◌, subst}
use Rattle.sect_once.specs.History.{history, IsFull, IsNew}
use Rattle.sect_once.proofs.Logs.{history-log_of}
use Rattle.sect_once.proofs.Acting.{acted_answer, desk_acted, desk_faulted, faulted_answer, has_room}
use Rattle.sect_once.proofs.desk.Desk.act.Goals as goal

pub act-acted-requires-clause-new : goal.act-acted-requires-clause-new
act-acted-requires-clause-new g c = subst (IsNew c.args.id) (ap (λ d. history d.log) (sym c.self.view_is) ∙ history-log_of 0 c.self.inside.unkept.items c.self.inside.past.entries) c.requires.new

pub act-acted-requires-clause-notes : goal.act-acted-requires-clause-notes
act-acted-requires-clause-notes g c = has_room g.O.Object.is_row c.self.inside.unkept.items c.self.inside.past.entries (subst (λ d. IsFull g.O.Object.is_row d.log → ⊥) (sym c.self.view_is) c.requires.room)

pub invariant_of-self-in-Ok : goal.invariant_of-self-in-Ok
invariant_of-self-in-Ok g c = let room = subst (λ d. IsFull g.O.Object.is_row d.log → ⊥) (sym c.self.view_is) c.requires.room in
    rw (c.reserve.ensures.items, c.in-Ok.ensures.ok.entries)
    (desk_acted g.O.Object.is_row g.O.Object.is_told c.self.inside.unkept.items c.self.inside.past.entries _ c.in-Ok.ensures.ok.row _ _ _ _ _ _ _ _ _ c.self.invariant room c.in-Ok.ensures.ok.written c.in-Ok.ensures.ok.added c.act-acted.ensures.cause.later c.in-Ok.ensures.told)

pub returns-in-Ok-clause-answer : goal.returns-in-Ok-clause-answer
returns-in-Ok-clause-answer g c = rw c.reserve.ensures.items
    (acted_answer g.O.Object.stepped g.O.Object.is_row g.K.Keeper.rows g.K.Keeper.faults c.self.inside.past c.act-acted.new.self c.self.inside.unkept.items c.self.inside.keeper c.act-acted.new.keeper _ c.args.self.now
    c.args.id c.args.day c.args.command.now c.in-Ok.reply c.acted-place.result c.self.view_is c.self.invariant.placed c.requires.new c.requires.room c.in-Ok.ensures.ok c.acted-place.ensures c.act-acted.ensures.cause.later)

pub invariant_of-self-in-Failed : goal.invariant_of-self-in-Failed
invariant_of-self-in-Failed g c = let room = subst (λ d. IsFull g.O.Object.is_row d.log → ⊥) (sym c.self.view_is) c.requires.room in
    rw (c.push_reserved.ensures.items, c.reserve.ensures.items, c.in-Err.ensures.same)
    (desk_faulted g.O.Object.is_row g.O.Object.is_told c.self.inside.unkept.items c.self.inside.past.entries c.args.id c.acted-place.result _ _ _ _ _ _ _ _ c.self.invariant room c.acted-place.ensures c.in-Err.ensures.rows (c.in-Err.ensures.cause.failed (ap Err c.in-Failed.is)))

pub returns-in-Failed-clause-answer : goal.returns-in-Failed-clause-answer
returns-in-Failed-clause-answer g c = rw (c.push_reserved.ensures.items, c.reserve.ensures.items)
    (faulted_answer g.O.Object.stepped g.O.Object.is_row g.K.Keeper.rows g.K.Keeper.faults c.self.inside.past c.act-acted.new.self c.self.inside.unkept.items c.self.inside.keeper c.act-acted.new.keeper _ c.args.self.now c.args.id c.acted-place.result
    c.self.view_is c.self.invariant.placed c.requires.new c.requires.room c.acted-place.ensures c.in-Err.ensures.same c.in-Err.ensures.rows (c.in-Err.ensures.cause.failed (ap Err c.in-Failed.is)))
