-- One weekday makes a meeting.
use Rattle.sect_shown.proofs.WeekLemmas.{one-weekday}
use Rattle.sect_shown.proofs.week.on_weekday.Goals as goal

pub unreachable-requires : goal.unreachable-requires
unreachable-requires c =
    c.in-None.ensures
    (one-weekday c.args.meeting.now c.args.day c.start.result c.slots.result c.weeks.result c.requires c.start.ensures.meeting c.start.ensures.start c.slots.ensures.slots c.weeks.ensures.weeks)
