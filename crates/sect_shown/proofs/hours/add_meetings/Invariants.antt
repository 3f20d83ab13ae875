-- the hours of the meetings so far, behind the others
use Rattle.std.proofs.Common.{◌≡◌, ◌++◌, take, map}
use Rattle.sect_shown.proofs.hours.add_meetings.Given as goal

abbrev pub invariant-loop-meeting : goal.invariant-loop-meeting
invariant-loop-meeting l = l.hours.items ≡ l.initial.hours.items ++ map (λ m. record { course = l.course; section = l.row.id; meeting = m }) (take l.meeting-index l.row.meetings)
