-- the views of the rows so far, behind the others
use Rattle.std.proofs.Common.{◌≡◌, ◌++◌, map, take}
use Rattle.sect_model.specs.Look.{section_view}
use Rattle.sect_view.proofs.open.add_sections.Given as goal

abbrev pub invariant-loop-row : goal.invariant-loop-row
invariant-loop-row l = l.views.items ≡ l.initial.views.items ++ map (section_view l.world.world) (take l.row-index l.rows)
