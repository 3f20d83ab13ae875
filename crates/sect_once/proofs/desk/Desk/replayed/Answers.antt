use Rattle.std.proofs.Common.{ap, refl}
use Rattle.sect_once.proofs.Openings.{opened_standing}
use Rattle.sect_once.proofs.desk.Desk.replayed.Goals as goal

pub returns : goal.returns
returns g c = opened_standing g.O.Object.start g.O.Object.stepped g.O.Object.is_row g.K.Keeper.rows g.K.Keeper.faults c.args.keeper _ c.new.result.items c.in-Ok.past.entries refl c.new.ensures.items
    (ap g.K.Keeper.faults c.of-opened.ensures) c.replay.ensures.rows c.recall_sound.ensures
