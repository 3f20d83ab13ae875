-- those counted and those to come are all, and at most 20 of each student
use Rattle.std.proofs.Common.{◌≡◌, ◌≤◌, ◌*◌, ◌+◌, length, drop}
use Rattle.std.specs.Prelude.{flat_map}
use Rattle.sect_model.specs.Batch.{asks_of}
use Rattle.sect_model.specs.Refusals.{waits_in}
use Rattle.sect_refuse.proofs.requests.waits_of.Given as goal

abbrev pub invariant-loop-student : goal.invariant-loop-student
invariant-loop-student l = record {
  sum : l.total + length (flat_map (λ s. flat_map waits_in (asks_of l.world.world s)) (drop l.student-index l.students)) ≡ length (flat_map (λ s. flat_map waits_in (asks_of l.world.world s)) l.students);
  few : l.total ≤ 20 * l.student-index;
}
