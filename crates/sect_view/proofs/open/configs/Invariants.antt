-- the views of the rows so far
use Rattle.std.proofs.Common.{◌≡◌, map, take}
use Rattle.sect_model.specs.Look.{config_view}
use Rattle.sect_view.proofs.open.configs.Given as goal

abbrev pub invariant-loop-row : goal.invariant-loop-row
invariant-loop-row l = l.views.items ≡ map (config_view l.world.world) (take l.row-index l.rows)
