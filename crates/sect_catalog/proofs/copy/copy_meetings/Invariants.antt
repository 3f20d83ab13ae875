-- the copies are those of the meetings so far
use Rattle.std.proofs.Common.{◌≡◌, take}
use Rattle.sect_catalog.proofs.copy.copy_meetings.Given as goal

abbrev pub invariant-loop-meeting : goal.invariant-loop-meeting
invariant-loop-meeting l = l.copies.items ≡ take l.meeting-index l.meeting-items
