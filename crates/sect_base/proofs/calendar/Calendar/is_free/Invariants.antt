use Rattle.sect_base.proofs.CalendarLemmas.{AreFree}
use Rattle.sect_base.proofs.calendar.Calendar.is_free.Given as goal

abbrev pub invariant-loop-day : goal.invariant-loop-day
invariant-loop-day l = AreFree l.self-inside.words l.days l.word l.slots l.day
