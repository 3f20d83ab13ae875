-- The object is the one behind the entries so far.
use Rattle.std.proofs.Common.{◌≡◌, take}
use Rattle.sect_once.specs.History.{history, state_after}
use Rattle.sect_once.proofs.again.replay.Given as goal

abbrev pub invariant-loop-place : goal.invariant-loop-place
invariant-loop-place g l = g.O.Object.state l.object ≡ state_after g.O.Object.stepped g.O.Object.start (take l.place (history l.desk.log))
