-- What was scanned is a front of the text.
use Rattle.std.proofs.Common.{arith, get_or}
use Rattle.sect_base.proofs.WeekScans.{scanned_more, scanned_all, scan_after-lt, weeks_of_scan-lt}
use Rattle.sect_base.proofs.week_scan.weeks_in.Goals as goal

pub loop-byte-preserved : goal.loop-byte-preserved
loop-byte-preserved c = (
  scanned_more c.args.text.now c.loop-byte.byte-index c.loop-byte.scan c.after-scan.result (omega arith) c.loop-byte.invariant.0 c.after-scan.ensures,
  rw c.after-scan.ensures (scan_after-lt c.loop-byte.scan (get_or c.args.text.now c.loop-byte.byte-index 0) c.loop-byte.invariant.1),
)

pub returns-clause-weeks : goal.returns-clause-weeks
returns-clause-weeks c =
    scanned_all c.args.text.now c.loop-byte.byte-index c.loop-byte.scan c.weeks.result c.loop-byte-test.false c.loop-byte.invariant.0 c.weeks.ensures

pub returns-clause-bound : goal.returns-clause-bound
returns-clause-bound c = rw c.weeks.ensures (weeks_of_scan-lt c.loop-byte.scan c.loop-byte.invariant.1)
