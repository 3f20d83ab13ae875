-- The batch, and then its lines.
use Rattle.std.proofs.Common.{◌∙◌}
use Rattle.sect_machine.proofs.AnsweredLemmas.{batch-acted}
use Rattle.sect_machine.proofs.lines.batch_lines.Goals as goal

pub returns-clause-acted : goal.returns-clause-acted
returns-clause-acted c =
    batch-acted c.args.world.now.world c.batch.new.world.world c.args.queue.now.queue c.join_lines.new.queue.queue c.args.students.now c.into_vec.result.items c.join_lines.result
    c.in_ok-lines.ensures.world (c.into_vec.ensures ∙ c.in_ok-lines.ensures.lines) c.join_lines.ensures.joined

pub returns-clause-tracked : goal.returns-clause-tracked
returns-clause-tracked c = record {
  since = c.batch.ensures.since;
  queue_since = c.join_lines.ensures.since;
  undoable = c.batch.ensures.undoable;
  queue_undoable = c.join_lines.ensures.undoable;
}
