use Rattle.std.proofs.Common.{arith}
use Rattle.sect_script.proofs.Steps.{ends_cut, ends_written, progress_none}
use Rattle.sect_script.proofs.script.run_lines.Goals as goal

pub loop-number-init : goal.loop-number-init
loop-number-init g c = record {
  progress = progress_none g.H.Handler.answers (g.S.Source.left c.args.source.now) (g.K.Sink.taken c.args.sink.now) c.args.handler.now
      c.in-Ok.reader c.new-gathered.result.items c.in-Ok.ensures c.new-gathered.ensures.items;
  few = omega arith;
  read_faults = omega arith;
  write_faults = omega arith;
}

pub returns-in-Ok-write_out-clause-ran : goal.returns-in-Ok-write_out-clause-ran
returns-in-Ok-write_out-clause-ran g c =
    ends_written (g.K.Sink.taken c.write_out.new.sink)
    (c.in-Some.ensures.ran (g.S.Source.left c.args.source.now) (g.K.Sink.taken c.args.sink.now) c.args.handler.now c.loop-number.invariant.progress)
    c.in-Ok-write_out.ensures.ok

pub returns-in-Err-clause-ran : goal.returns-in-Err-clause-ran
returns-in-Err-clause-ran g c =
    ends_cut (g.K.Sink.taken c.write_out.new.sink)
    (c.in-Some.ensures.ran (g.S.Source.left c.args.source.now) (g.K.Sink.taken c.args.sink.now) c.args.handler.now c.loop-number.invariant.progress)
    c.in-Err.ensures.err
