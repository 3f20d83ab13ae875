use Rattle.std.proofs.Common.{◌∷◌, ◌++◌, [], map, refl, sym, ◌∙◌, ap, subst}
use Rattle.std.proofs.lemmas.Result.{on_err_weaker}
use Rattle.sect_journal.specs.Disk.{Stays}
use Rattle.sect_journal.specs.Standing.{Leaves}
use Rattle.sect_journal.proofs.Keeps.{stays_here, stays_settling, stays_staging, stays_admitting, loose_as_before, group_is_loose, on_err_of}
use Rattle.sect_journal.proofs.journal.Journal.add.Goals as goal

pub returns-in_err-fill-clause-may_be_loose : goal.returns-in_err-fill-clause-may_be_loose
returns-in_err-fill-clause-may_be_loose g c = on_err_of c.from_residual.result (loose_as_before c.args.self.now.loose c.args.self.now.loose (map (λ row. row.now) c.args.rows.now) refl)

pub returns-in_err-fill-clause-moments : goal.returns-in_err-fill-clause-moments
returns-in_err-fill-clause-moments g c = stays_here (g.D.Disk.told c.args.self.now.disk) c.args.self.now.rows c.args.self.now.loose (map (λ row. row.now) c.args.rows.now) c.recall_sound.ensures

pub returns-in_err-make_room-clause-may_be_loose : goal.returns-in_err-make_room-clause-may_be_loose
returns-in_err-make_room-clause-may_be_loose g c = on_err_of c.from_residual-in_err-make_room.result (loose_as_before c.make_room.new.self.loose c.args.self.now.loose (map (λ row. row.now) c.args.rows.now) (ap (λ s. s.loose) c.make_room.ensures.same))

pub returns-in_err-make_room-clause-moments : goal.returns-in_err-make_room-clause-moments
returns-in_err-make_room-clause-moments g c = subst (λ d. Stays (g.D.Disk.told c.args.self.now.disk) (g.D.Disk.told d) (Leaves c.args.self.now.rows (c.args.self.now.loose ++ (map (λ row. row.now) c.args.rows.now) ∷ []))) (sym (ap (λ s. s.disk) c.make_room.ensures.same)) (stays_here (g.D.Disk.told c.args.self.now.disk) c.args.self.now.rows c.args.self.now.loose (map (λ row. row.now) c.args.rows.now) c.recall_sound.ensures)

pub returns-in_err-settle-clause-may_be_loose : goal.returns-in_err-settle-clause-may_be_loose
returns-in_err-settle-clause-may_be_loose g c = on_err_of c.from_residual-in_err-settle.result (loose_as_before c.settle.new.self.loose c.args.self.now.loose (map (λ row. row.now) c.args.rows.now) (c.in_err-settle.ensures.err ∙ ap (λ s. s.loose) c.make_room.ensures.same))

pub returns-in_err-settle-clause-moments : goal.returns-in_err-settle-clause-moments
returns-in_err-settle-clause-moments g c = stays_settling (g.D.Disk.told c.args.self.now.disk) (g.D.Disk.told c.settle.new.self.disk) c.args.self.now.rows c.args.self.now.loose (map (λ row. row.now) c.args.rows.now) (subst (λ s. Stays (g.D.Disk.told s.disk) (g.D.Disk.told c.settle.new.self.disk) (Leaves s.rows s.loose)) c.make_room.ensures.same c.settle.ensures.moments)

pub returns-in_err-stage-clause-moments : goal.returns-in_err-stage-clause-moments
returns-in_err-stage-clause-moments g c = (stays_staging (g.D.Disk.told c.args.self.now.disk) (g.D.Disk.told c.settle.new.self.disk) (g.D.Disk.told c.stage.new.self.disk) c.args.self.now.rows c.settle.new.self.rows c.args.self.now.loose (map (λ row. row.now) c.args.rows.now) (subst (λ s. Stays (g.D.Disk.told s.disk) (g.D.Disk.told c.settle.new.self.disk) (Leaves s.rows s.loose)) c.make_room.ensures.same c.settle.ensures.moments) (c.settle.ensures.rows ∙ ap (λ s. s.rows) c.make_room.ensures.same) c.stage.ensures.moments)

pub returns-clause-may_be_loose : goal.returns-clause-may_be_loose
returns-clause-may_be_loose g c = on_err_weaker c.admit.result (λ same. group_is_loose (g.D.Disk.told c.stage.new.self.disk) c.admit.new.self.loose c.args.self.now.loose (map (λ row. row.now) c.args.rows.now) (same ∙ c.in_ok-stage.ensures.loose)) c.admit.ensures.same_loose

pub returns-clause-moments : goal.returns-clause-moments
returns-clause-moments g c = stays_admitting (g.D.Disk.told c.args.self.now.disk) (g.D.Disk.told c.stage.new.self.disk) (g.D.Disk.told c.admit.new.self.disk) (g.D.Disk.told c.stage.new.self.disk) c.args.self.now.rows c.stage.new.self.rows c.args.self.now.loose c.stage.new.self.loose (map (λ row. row.now) c.args.rows.now) (stays_staging (g.D.Disk.told c.args.self.now.disk) (g.D.Disk.told c.settle.new.self.disk) (g.D.Disk.told c.stage.new.self.disk) c.args.self.now.rows c.settle.new.self.rows c.args.self.now.loose (map (λ row. row.now) c.args.rows.now) (subst (λ s. Stays (g.D.Disk.told s.disk) (g.D.Disk.told c.settle.new.self.disk) (Leaves s.rows s.loose)) c.make_room.ensures.same c.settle.ensures.moments) (c.settle.ensures.rows ∙ ap (λ s. s.rows) c.make_room.ensures.same) c.stage.ensures.moments) (c.stage.ensures.rows ∙ (c.settle.ensures.rows ∙ ap (λ s. s.rows) c.make_room.ensures.same)) c.in_ok-stage.ensures.loose c.admit.ensures.moments
