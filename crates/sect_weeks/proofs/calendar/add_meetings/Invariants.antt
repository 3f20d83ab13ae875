-- the slots of the meetings so far are taken
use Rattle.std.proofs.Common.{take}
use Rattle.sect_weeks.specs.Taken.{Adds, meetings_take}
use Rattle.sect_weeks.proofs.calendar.add_meetings.Given as goal

abbrev pub invariant-loop-meeting : goal.invariant-loop-meeting
invariant-loop-meeting l = Adds l.initial.calendar l.calendar (meetings_take (take l.meeting-index l.meetings))
