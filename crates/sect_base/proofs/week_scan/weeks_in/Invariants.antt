use Rattle.std.specs.Prelude.{◌≡◌, ◌<◌, ◌^◌, take, fold}
use Rattle.sect_base.specs.WeekScan.{scan_after, SCAN_START}
use Rattle.sect_base.proofs.week_scan.weeks_in.Given as goal

abbrev pub invariant-loop-byte : goal.invariant-loop-byte
invariant-loop-byte l = (l.scan ≡ fold scan_after SCAN_START (take l.byte-index l.text)) × (l.scan.weeks < 2 ^ 60)
