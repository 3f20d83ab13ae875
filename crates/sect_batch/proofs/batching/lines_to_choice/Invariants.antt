-- the lines of the requests from the first place on are told, before the place
use Rattle.std.proofs.Common.{◌≤◌, length}
use Rattle.sect_model.specs.Batch.{asks_of}
use Rattle.sect_batch.specs.Lines.{ToldOn}
use Rattle.sect_batch.proofs.batching.lines_to_choice.Given as goal

abbrev pub invariant-loop-place : goal.invariant-loop-place
invariant-loop-place g l =
    (l.from ≤ l.place)
    × (l.place ≤ length (asks_of l.world.world l.student))
    × ToldOn l.student (asks_of l.world.world l.student) l.world.world l.initial.lines l.from l.world.world l.lines l.place
