use Rattle.sect_base.proofs.CalendarLemmas.{IsClearBefore}
use Rattle.sect_base.proofs.calendar.Calendar.clear.Given as goal

abbrev pub invariant-loop-word : goal.invariant-loop-word
invariant-loop-word l = IsClearBefore l.self l.m l.word
