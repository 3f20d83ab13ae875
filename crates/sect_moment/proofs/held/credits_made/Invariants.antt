-- the sum so far, of at most 255 each
use Rattle.std.proofs.Common.{◌≡◌, ◌≤◌, ◌*◌, sum_by, take}
use Rattle.sect_model.specs.World.{credits_of}
use Rattle.sect_moment.proofs.held.credits_made.Given as goal

abbrev pub invariant-loop-choice : goal.invariant-loop-choice
invariant-loop-choice l = record {
  sum : l.total ≡ sum_by (λ c. credits_of l.world.world c.course) (take l.choice-index l.done);
  few : l.total ≤ 255 * l.choice-index;
}
