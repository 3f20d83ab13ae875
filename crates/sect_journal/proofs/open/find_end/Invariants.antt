use Rattle.std.proofs.Common.{◌≡◌, ◌-◌, ◌≤◌}
use Rattle.sect_journal.specs.Windows.{IsWindow}
use Rattle.sect_journal.specs.Opening.{ReadsTo}
use Rattle.sect_journal.proofs.open.find_end.Given as goal

abbrev pub invariant-loop-window : goal.invariant-loop-window
invariant-loop-window g l = record {
  same : g.D.Disk.told l.disk ≡ g.D.Disk.told l.fn.disk;
  faults : g.D.Disk.faults l.fn.disk ≤ g.D.Disk.faults l.disk;
  size : l.size ≡ l.fn.size;
  within : l.gate ≤ l.fn.size;
  window : IsWindow (g.D.Disk.told l.fn.disk) l.window.place l.window.bytes.items;
  reads : ReadsTo (g.D.Disk.told l.fn.disk) l.spans.items l.gate;
}

abbrev pub decreases-loop-window : goal.decreases-loop-window
decreases-loop-window g l = l.fn.size - l.gate
