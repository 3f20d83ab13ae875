-- a change more is recorded, or none
use Rattle.std.proofs.Common.{sym, subst}
use Rattle.sect_space.specs.Undo.{Undoable}
use Rattle.sect_space.proofs.Steps.{undoable-more, undoable-room}
use Rattle.sect_space.proofs.WorldLemmas.{takes-one}
use Rattle.sect_space.proofs.world.World.apply.Goals as goal

pub returns-in_err-make-clause-undoable : goal.returns-in_err-make-clause-undoable
returns-in_err-make-clause-undoable c =
    λ u. subst (Undoable c.make.new.self) (sym c.in_err-make.ensures.err_recorded)
    (undoable-room c.args.self.now c.make.new.self c.args.undo.now.backs u c.in_err-make.ensures.err.world (record { lists = c.in_err-make.ensures.err.room; uses = c.make.ensures.uses }))

pub returns-clause-spare : goal.returns-clause-spare
returns-clause-spare c = takes-one c.args.self.now c.make.new.self c.args.change c.in_ok-make.ensures.ok.world c.in_ok-make.ensures.ok.room

pub returns-clause-undoable : goal.returns-clause-undoable
returns-clause-undoable c =
    λ u. subst (Undoable c.make.new.self) (sym c.in_ok-make.ensures.recorded)
    (undoable-more c.args.self.now c.make.new.self c.args.undo.now.backs c.args.change u c.requires c.in_ok-make.ensures.ok.world (record { lists = c.in_ok-make.ensures.ok.room; uses = c.make.ensures.uses }))
