-- the sum so far
use Rattle.std.proofs.Common.{◌≡◌, cond, sum_by, take}
use Rattle.sect_model.specs.World.{credits_of}
use Rattle.sect_moment.specs.Moment.{is_given}
use Rattle.sect_moment.proofs.held.credits_kept.Given as goal

abbrev pub invariant-loop-e : goal.invariant-loop-e
invariant-loop-e l = l.total ≡ sum_by (λ e. cond (is_given l.give e.choice.course) 0 (credits_of l.world.world e.choice.course)) (take l.e-index l.held)
