-- the views of the entries so far
use Rattle.std.proofs.Common.{◌≡◌, map, take}
use Rattle.sect_model.specs.Look.{wait_view}
use Rattle.sect_view.proofs.waiting.waiting.Given as goal

abbrev pub invariant-loop-entry : goal.invariant-loop-entry
invariant-loop-entry l = l.views.items ≡ map wait_view (take l.entry-index l.entries)
