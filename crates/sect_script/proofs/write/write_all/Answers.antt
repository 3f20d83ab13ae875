use Rattle.std.proofs.Common.{arith}
use Rattle.std.proofs.lemmas.Grind.{common_steps}
use Rattle.sect_script.proofs.Writes.{appends_more}
use Rattle.sect_script.proofs.write.write_all.Goals as goal

pub loop-written-preserved : goal.loop-written-preserved
loop-written-preserved g c = record {
  within = grind (arith, common_steps);
  front = appends_more _ _ _ c.args.bytes.now c.loop-written.written c.in_ok-written.field-0 c.loop-written.invariant.front c.in_ok-written.ensures.bytes;
  faults = grind (arith, common_steps, c.in_ok-written.ensures.cause);
}
