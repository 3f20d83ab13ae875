-- the trees behind cover the options behind
use Rattle.std.proofs.Common.{◌≡◌, ◌+◌, ◌-◌, ◌*◌, ◌≤◌, drop, length}
use Rattle.sect_base.specs.Tree.{trees_of, size_of, sizes_of}
use Rattle.sect_model.specs.Covers.{cover_each}
use Rattle.sect_model.specs.Path.{options_at}
use Rattle.sect_rules.specs.Due.{place_of}
use Rattle.sect_search.proofs.verifying.+covering.Given as goal

abbrev pub invariant-cover-options : goal.invariant-cover-options
invariant-cover-options g l =
    let w = (place_of l.due).world in
    let mv = (place_of l.due).mv in
    let p = (place_of l.due).path in record {
      same : cover_each w mv p (options_at w mv p) (trees_of l.trees) ≡ cover_each w mv p (drop l.at (options_at w mv p)) (trees_of (drop l.at l.trees));
      within : l.at ≤ length l.trees;
    }

abbrev pub decreases-cover-options : goal.decreases-cover-options
decreases-cover-options g l = length l.trees - l.at

abbrev pub decreases-covers_step : goal.decreases-covers_step
decreases-covers_step g l = 4 * size_of l.tree.now

abbrev pub decreases-covers_behind : goal.decreases-covers_behind
decreases-covers_behind g l = 4 * sizes_of (trees_of l.trees.now) + 3

abbrev pub decreases-covers_ended : goal.decreases-covers_ended
decreases-covers_ended g l = 4 * sizes_of (trees_of l.trees.now) + 2

abbrev pub decreases-cover : goal.decreases-cover
decreases-cover g l = 4 * sizes_of (trees_of l.trees.now) + 1
