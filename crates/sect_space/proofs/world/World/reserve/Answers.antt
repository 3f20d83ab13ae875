-- the same changes are recorded, and there is no less room
use Rattle.std.proofs.Common.{sym, subst}
use Rattle.sect_space.specs.Undo.{Undoable}
use Rattle.sect_space.proofs.Steps.{undoable-room}
use Rattle.sect_space.proofs.world.World.reserve.Goals as goal

pub returns-in_err-reserve_roster-clause-undoable : goal.returns-in_err-reserve_roster-clause-undoable
returns-in_err-reserve_roster-clause-undoable c =
    λ u. undoable-room c.args.self.now c.reserve_roster.new.self c.args.undo.now.backs u c.reserve_roster.ensures.same.world (record { lists = c.reserve_roster.ensures.same.room; uses = c.reserve_roster.ensures.uses })

pub returns-clause-undoable : goal.returns-clause-undoable
returns-clause-undoable c =
    λ u. subst (Undoable c.reserve_roster.new.self) (sym c.reserve.ensures.backs)
    (undoable-room c.args.self.now c.reserve_roster.new.self c.args.undo.now.backs u c.reserve_roster.ensures.same.world (record { lists = c.reserve_roster.ensures.same.room; uses = c.reserve_roster.ensures.uses }))
