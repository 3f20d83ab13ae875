use Rattle.sect_once.proofs.Acting.{sound_from}
use Rattle.sect_once.proofs.desk.Desk.recall_sound.Goals as goal

pub returns : goal.returns
returns g c = sound_from g.O.Object.stepped g.O.Object.is_row g.K.Keeper.rows g.K.Keeper.faults g.O.Object.is_told g.O.Object.start
    c.self.inside.past c.self.inside.unkept.items c.self.inside.keeper _ _ _ c.args.self.now c.self.view_is c.recall_trail.ensures c.self.invariant
