-- Weekdays, time and weeks with slashes between.
use Rattle.sect_base.proofs.MeetingTexts.{five_pieces}
use Rattle.sect_base.proofs.meeting_text.print_meeting.Goals as goal

pub returns : goal.returns
returns c =
    five_pieces c.print_days.new.text c.push.new.self c.print_time.new.text c.push-2.new.self c.print_weeks.new.text c.args.m.now
    (rw (c.empty-text.ensures, c.days.ensures.days) at c.print_days.ensures.text) c.push.ensures
    (rw (c.start.ensures.start, c.start-2.ensures.start, c.slots.ensures.slots) at c.print_time.ensures.text) c.push-2.ensures
    (rw c.weeks.ensures.weeks at c.print_weeks.ensures)
