-- The entry at a place acts behind those before it.
use Rattle.sect_once.specs.History.{history}
use Rattle.sect_once.proofs.Fronts.{acted_more}
use Rattle.sect_once.proofs.again.replay.Goals as goal

pub loop-place-preserved : goal.loop-place-preserved
loop-place-preserved g c =
    acted_more g.O.Object.stepped g.O.Object.start (history c.args.desk.now.log) c.loop-place.place c.in_ok-entry.entry (g.O.Object.state c.loop-place.object) _
    c.loop-place.invariant c.in_ok-act.ensures c.in_ok-entry.ensures
