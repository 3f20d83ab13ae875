-- the unmet requests of the students so far
use Rattle.std.proofs.Common.{◌≡◌, flat_map, take}
use Rattle.sect_model.specs.Batch.{asks_of}
use Rattle.sect_view.specs.Unmet.{unmet_among}
use Rattle.sect_view.proofs.unmet.unmet_of.Given as goal

abbrev pub invariant-loop-student : goal.invariant-loop-student
invariant-loop-student l = l.views.items ≡ flat_map (λ s. unmet_among l.world.world s (asks_of l.world.world s)) (take l.student-index l.students)
