use Rattle.sect_base.proofs.CalendarLemmas.{TookOn}
use Rattle.sect_base.proofs.calendar.Calendar.take.Given as goal

abbrev pub invariant-loop-day : goal.invariant-loop-day
invariant-loop-day l = TookOn l.initial.self-inside.words l.self-inside.words l.days l.word l.slots l.day
