-- each course so far is held, and named once
use Rattle.std.proofs.Common.{◌≡◌, drop, take, []}
use Rattle.sect_model.specs.Refusals.{not_enrolled_in}
use Rattle.sect_refuse.proofs.held.not_enrolled_in.Given as goal

abbrev pub invariant-loop-place : goal.invariant-loop-place
invariant-loop-place l = not_enrolled_in l.world.world l.student [] l.given ≡ not_enrolled_in l.world.world l.student (take l.place l.given) (drop l.place l.given)
