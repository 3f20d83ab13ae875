-- the views of the sections of the subparts so far
use Rattle.std.proofs.Common.{◌≡◌, map, take}
use Rattle.sect_catalog.specs.Catalogue.{sections_in}
use Rattle.sect_model.specs.Look.{section_view}
use Rattle.sect_view.proofs.open.sections.Given as goal

abbrev pub invariant-loop-subpart : goal.invariant-loop-subpart
invariant-loop-subpart l = l.views.items ≡ map (section_view l.world.world) (sections_in (take l.subpart-index l.subparts))
