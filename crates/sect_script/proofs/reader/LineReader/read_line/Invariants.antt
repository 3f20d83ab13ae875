use Rattle.std.proofs.Common.{◌+◌, ◌*◌, ◌≤◌, ◌-◌, length}
use Rattle.sect_script.specs.Gathering.{WritesBut}
use Rattle.sect_script.specs.Reading.{LINE_LIMIT}
use Rattle.sect_script.proofs.Gathered.{Gathered}
use Rattle.sect_script.proofs.reader.LineReader.read_line.Given as goal

abbrev pub invariant-loop-found : goal.invariant-loop-found
invariant-loop-found g l = record {
  gathered : Gathered (g.S.Source.left l.fn.source) (g.S.Source.left l.source) l.fn.self l.self l.line.items;
  short : length l.line.items ≤ LINE_LIMIT;
  written : WritesBut (g.K.Sink.taken l.fn.sink) (g.K.Sink.taken l.sink) l.fn.gathered.items l.gathered.items;
  faults : g.S.Source.faults l.fn.source ≤ g.S.Source.faults l.source;
  write_faults : g.K.Sink.faults l.fn.sink ≤ g.K.Sink.faults l.sink;
}

-- a turn makes the line longer, or finds bytes where none stood ready
abbrev pub decreases-loop-found : goal.decreases-loop-found
decreases-loop-found g l = 2 * (LINE_LIMIT - length l.line.items) + (1 - length l.self)
