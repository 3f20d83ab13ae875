use Rattle.std.proofs.Common.{◌+◌, ◌-◌, ◌≤◌}
use Rattle.sect_script.specs.Run.{LINES_LIMIT}
use Rattle.sect_script.specs.Progress.{Progress}
use Rattle.sect_script.proofs.script.run_lines.Given as goal

abbrev pub invariant-loop-number : goal.invariant-loop-number
invariant-loop-number g l = record {
  progress : Progress g.H.Handler.answers (g.S.Source.left l.fn.source) (g.S.Source.left l.source)
      (g.K.Sink.taken l.fn.sink) (g.K.Sink.taken l.sink) l.fn.handler l.handler l.number l.reader l.gathered.items;
  few : l.number ≤ LINES_LIMIT + 1;
  read_faults : g.S.Source.faults l.fn.source ≤ g.S.Source.faults l.source;
  write_faults : g.K.Sink.faults l.fn.sink ≤ g.K.Sink.faults l.sink;
}

abbrev pub decreases-loop-number : goal.decreases-loop-number
decreases-loop-number g l = LINES_LIMIT + 1 - l.number
